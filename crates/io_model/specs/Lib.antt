pub mod Sink
pub mod MemSink
pub mod Source
pub mod MemSource
pub mod Reading
