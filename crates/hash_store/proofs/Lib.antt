mod Kept
mod Moved
mod Ring
mod Slotted
