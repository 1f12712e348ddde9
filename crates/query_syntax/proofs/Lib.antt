pub mod Lists
pub mod Spelled
pub mod TokensAgain
pub mod ReadForms
pub mod FormsAgain
