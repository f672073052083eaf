pub mod Items
pub mod PartnersLemmas
pub mod DirectoryLemmas
