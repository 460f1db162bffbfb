pub mod ThreadsFor
