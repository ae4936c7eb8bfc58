pub mod GroupCounts
