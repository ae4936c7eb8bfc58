mod FirstSums
mod ProductRows
mod Readings
