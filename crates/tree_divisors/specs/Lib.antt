pub mod Cutting
pub mod Finding
pub mod Framing
pub mod Laying
