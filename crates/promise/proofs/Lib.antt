pub mod Turns
pub mod Verdicts
pub mod Rings
pub mod Refines
pub mod Readings
mod Logs
mod Origins
mod Backs
mod Rules
mod Decisions
mod Carrying
mod Steady
mod Rounds
mod Passing
mod Lifts
mod Lowered
mod Deciding
mod Collecting
mod Bounds
mod Delivering
mod Leading
mod Promises
mod Example
