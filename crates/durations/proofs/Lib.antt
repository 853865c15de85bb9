pub mod Nanos
