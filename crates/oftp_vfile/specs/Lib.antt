-- What this crate's contracts speak in.
pub mod VirtualFile
pub mod Growth
pub mod Subrecord
pub mod Carries
pub mod Taking
pub mod Reading
pub mod Fill
pub mod Filling
pub mod Packing
pub mod LocalForm
pub mod Laws
pub mod FaultTexts
