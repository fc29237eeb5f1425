pub mod History
pub mod Entry
pub mod PassView
pub mod Rule
pub mod Told
pub mod Queues
pub mod WaitRing
