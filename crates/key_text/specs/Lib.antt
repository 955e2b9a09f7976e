pub mod Der
pub mod Pem
pub mod Keys
pub mod Reading
pub use Rattle.rsa_signature.specs.Message
