pub mod WordProducts
