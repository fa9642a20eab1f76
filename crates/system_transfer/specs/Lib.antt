-- Bytes on their way: `Answers` are the system's, `Transfer` the machine and that it comes to an end, `Sending` what holds of the bytes that were taken of a text over every sequence of answers, `Receiving` of those that an input gave.
pub mod Answers
pub mod Transfer
pub mod Sending
pub mod Receiving
