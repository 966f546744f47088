pub mod Accrued
