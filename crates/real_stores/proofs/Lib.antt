pub mod DatabaseCrosses
pub mod FileCrosses
pub mod SchemaCrosses
