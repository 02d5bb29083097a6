mod TreeBuilds
mod TreePuts
mod TreeSums
mod TwoTrees
