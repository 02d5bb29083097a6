mod Chains
mod PathsDrawn
mod PicturesDrawn
