pub mod Lists
pub mod WorldRoutes
