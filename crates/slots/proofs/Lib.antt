mod InPlace
mod Missing
