-- `stages::biv_build_planes` meets its contract: by that of `build_planes`, with settings read from slices.
use Rattle.stages.proofs.biv_build_planes.Goals as goal

pub settings_from-s-requires : goal.settings_from-s-requires
settings_from-s-requires c = c.requires.counts_len

pub build_planes-requires : goal.build_planes-requires
build_planes-requires c = let p = c.requires in record {
  triangles_lent = p.triangles_lent;
  held = p.held;
  planes_room = p.planes_room;
}

pub shape_of-keys : goal.shape_of-keys
shape_of-keys c = c.build_planes.auto.keys

pub shape_of-low_keys : goal.shape_of-low_keys
shape_of-low_keys c = c.build_planes.auto.low_keys

pub shape_of-words : goal.shape_of-words
shape_of-words c = c.build_planes.auto.words

pub shape_of-scratch : goal.shape_of-scratch
shape_of-scratch c = c.build_planes.auto.scratch

pub shape_of-index : goal.shape_of-index
shape_of-index c = c.build_planes.auto.index

pub shape_of-numbers : goal.shape_of-numbers
shape_of-numbers c = c.build_planes.auto.numbers

pub shape_of-adjacency : goal.shape_of-adjacency
shape_of-adjacency c = c.build_planes.auto.adjacency

pub shape_of-queue : goal.shape_of-queue
shape_of-queue c = c.build_planes.auto.queue

pub shape_of-offsets : goal.shape_of-offsets
shape_of-offsets c = c.build_planes.auto.offsets

pub shape_of-floats : goal.shape_of-floats
shape_of-floats c = c.build_planes.auto.floats

pub shape_of-plane_triangles : goal.shape_of-plane_triangles
shape_of-plane_triangles c = c.build_planes.auto.plane_triangles

pub shape_of-plane_floats : goal.shape_of-plane_floats
shape_of-plane_floats c = c.build_planes.auto.plane_floats

pub shape_of-plane_words : goal.shape_of-plane_words
shape_of-plane_words c = c.build_planes.auto.plane_words

pub shape_of-plane_edges : goal.shape_of-plane_edges
shape_of-plane_edges c = c.build_planes.auto.plane_edges

pub returns : goal.returns
returns c = record {
  by_index = λ tri t h. rw (← c.settings_from-s.ensures) (c.build_planes.ensures.by_index tri t h);
  upper_bound = (rw (← c.settings_from-s.ensures) c.build_planes.ensures.upper_bound.0, c.build_planes.ensures.upper_bound.1);
  rest = c.build_planes.ensures.rest;
}
