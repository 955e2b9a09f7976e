pub mod Spelling
pub mod Manifest
pub mod Message
pub use Rattle.upd_text.specs.Text
pub use Rattle.sha2.specs.Sha256
pub use Rattle.hex.specs.Hex
