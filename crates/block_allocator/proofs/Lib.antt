pub mod SortedLists
pub mod Pages
pub mod Merging
pub mod Maximal
pub mod Picking
pub mod Waiting
