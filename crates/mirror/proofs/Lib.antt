-- The laws of a mirror plane: its rows, and the loops over its triangles and edges.
pub mod Laws
