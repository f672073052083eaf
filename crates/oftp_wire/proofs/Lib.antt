pub mod Numbers
pub mod Scans
pub mod Decimals
pub mod Printed
