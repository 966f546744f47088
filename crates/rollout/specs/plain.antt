pub mod Rollout
