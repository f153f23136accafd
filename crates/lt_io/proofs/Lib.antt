pub mod Flows
pub mod PieceLaws
