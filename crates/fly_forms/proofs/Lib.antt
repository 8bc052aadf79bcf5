mod Lists
mod NameOrder
mod BoundLayers
mod ExprLayers
mod NodeLayers
