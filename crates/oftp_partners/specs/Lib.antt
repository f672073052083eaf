pub mod Book
pub mod Directory
pub mod Faults
pub mod Fields
pub mod Keys
pub mod Printed
