pub mod Token
pub mod Laws
