pub mod RouteFaults
