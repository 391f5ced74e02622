pub mod HasTop
