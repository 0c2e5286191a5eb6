pub mod Faults
pub mod MemFiles
pub mod MemSink
pub mod Reading
pub mod RealFiles
pub mod RealSink
pub mod Writing
