mod LaneDotProducts
mod PaddedRows
mod SliceDotProducts
