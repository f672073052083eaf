pub mod Printed
pub mod Service
pub mod Statuses
