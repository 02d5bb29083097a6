mod Asking
mod Cutting
