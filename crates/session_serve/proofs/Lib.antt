pub mod Amid
