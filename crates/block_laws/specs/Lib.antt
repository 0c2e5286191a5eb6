pub mod Apart
pub mod Guarded
pub mod Mapped
pub mod Runnable
pub mod Unconverting
