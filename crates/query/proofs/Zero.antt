-- All work areas zero.
use Prim.Native.Nat.{ℕ}
use mathlib.Core.Path.{◌≡◌, ap, ◌∙◌}
use mathlib.Core.List.{List}
use lib.Ieee.{Float}
use lib.ListN.{length, replicate}
use Rattle.float.specs.Literals.{zero32}
use Rattle.clearing.specs.Zero.{PlanesZero, SceneZero}
use Rattle.query.specs.Areas.{Work, zeroed}

-- an area of zeros that is as long as it was
zero_still : {A : Type 0} (z : A) (l l' : List A) → l' ≡ replicate (length l') z → length l' ≡ length l → l' ≡ replicate (length l) z
zero_still z l l' e same = e ∙ ap (λ (k : ℕ). replicate k z) same

-- records are equal where their fields are
ap19 :
    {triangles triangles' : List Float} {handles handles' : List ℕ} {tree tree' : List Float} {nodes nodes' : List ℕ}
    {leaf_order leaf_order' : List ℕ} {keys keys' : List ℕ} {low_keys low_keys' : List ℕ} {words words' : List ℕ}
    {scratch scratch' : List ℕ} {index index' : List ℕ} {numbers numbers' : List ℕ} {adjacency adjacency' : List ℕ}
    {queue queue' : List ℕ} {offsets offsets' : List ℕ} {floats floats' : List Float} {plane_triangles plane_triangles' : List ℕ}
    {plane_floats plane_floats' : List Float} {plane_words plane_words' : List ℕ} {plane_edges plane_edges' : List Float} →
    triangles' ≡ triangles → handles' ≡ handles → tree' ≡ tree → nodes' ≡ nodes → leaf_order' ≡ leaf_order →
    keys' ≡ keys → low_keys' ≡ low_keys → words' ≡ words → scratch' ≡ scratch → index' ≡ index →
    numbers' ≡ numbers → adjacency' ≡ adjacency → queue' ≡ queue → offsets' ≡ offsets → floats' ≡ floats →
    plane_triangles' ≡ plane_triangles → plane_floats' ≡ plane_floats → plane_words' ≡ plane_words → plane_edges' ≡ plane_edges →
    ◌≡◌ {A = Work}
    (record {
      triangles = triangles';
      handles = handles';
      tree = tree';
      nodes = nodes';
      leaf_order = leaf_order';
      keys = keys';
      low_keys = low_keys';
      words = words';
      scratch = scratch';
      index = index';
      numbers = numbers';
      adjacency = adjacency';
      queue = queue';
      offsets = offsets';
      floats = floats';
      plane_triangles = plane_triangles';
      plane_floats = plane_floats';
      plane_words = plane_words';
      plane_edges = plane_edges';
    })
    (record {
      triangles = triangles;
      handles = handles;
      tree = tree;
      nodes = nodes;
      leaf_order = leaf_order;
      keys = keys;
      low_keys = low_keys;
      words = words;
      scratch = scratch;
      index = index;
      numbers = numbers;
      adjacency = adjacency;
      queue = queue;
      offsets = offsets;
      floats = floats;
      plane_triangles = plane_triangles;
      plane_floats = plane_floats;
      plane_words = plane_words;
      plane_edges = plane_edges;
    })
ap19 e0 e1 e2 e3 e4 e5 e6 e7 e8 e9 e10 e11 e12 e13 e14 e15 e16 e17 e18 = rw (e0, e1, e2, e3, e4, e5, e6, e7, e8, e9, e10, e11, e12, e13, e14, e15, e16, e17, e18)

-- the lengths of all work areas are as they were
pub record SameLengths (w w' : Work) : Type 0 where
  pub triangles_same : length w'.triangles ≡ length w.triangles
  pub handles_same : length w'.handles ≡ length w.handles
  pub tree_same : length w'.tree ≡ length w.tree
  pub nodes_same : length w'.nodes ≡ length w.nodes
  pub leaf_order_same : length w'.leaf_order ≡ length w.leaf_order
  pub keys_same : length w'.keys ≡ length w.keys
  pub low_keys_same : length w'.low_keys ≡ length w.low_keys
  pub words_same : length w'.words ≡ length w.words
  pub scratch_same : length w'.scratch ≡ length w.scratch
  pub index_same : length w'.index ≡ length w.index
  pub numbers_same : length w'.numbers ≡ length w.numbers
  pub adjacency_same : length w'.adjacency ≡ length w.adjacency
  pub queue_same : length w'.queue ≡ length w.queue
  pub offsets_same : length w'.offsets ≡ length w.offsets
  pub floats_same : length w'.floats ≡ length w.floats
  pub plane_triangles_same : length w'.plane_triangles ≡ length w.plane_triangles
  pub plane_floats_same : length w'.plane_floats ≡ length w.plane_floats
  pub plane_words_same : length w'.plane_words ≡ length w.plane_words
  pub plane_edges_same : length w'.plane_edges ≡ length w.plane_edges

pub all_zero :
    (w w' : Work) →
    PlanesZero w'.keys w'.low_keys w'.words w'.scratch w'.index w'.numbers w'.adjacency w'.queue w'.offsets w'.plane_triangles w'.plane_words w'.plane_floats w'.floats w'.plane_edges →
    SceneZero w'.triangles w'.handles w'.tree w'.nodes w'.leaf_order → SameLengths w w' → w' ≡ zeroed w
all_zero w w' p s same =
    let e_triangles : w'.triangles ≡ replicate (length w.triangles) zero32 = zero_still zero32 w.triangles w'.triangles s.triangles_zero same.triangles_same in
    let e_handles : w'.handles ≡ replicate (length w.handles) 0 = zero_still 0 w.handles w'.handles s.handles_zero same.handles_same in
    let e_tree : w'.tree ≡ replicate (length w.tree) zero32 = zero_still zero32 w.tree w'.tree s.tree_zero same.tree_same in
    let e_nodes : w'.nodes ≡ replicate (length w.nodes) 0 = zero_still 0 w.nodes w'.nodes s.nodes_zero same.nodes_same in
    let e_leaf_order : w'.leaf_order ≡ replicate (length w.leaf_order) 0 = zero_still 0 w.leaf_order w'.leaf_order s.leaf_order_zero same.leaf_order_same in
    let e_keys : w'.keys ≡ replicate (length w.keys) 0 = zero_still 0 w.keys w'.keys p.keys_zero same.keys_same in
    let e_low_keys : w'.low_keys ≡ replicate (length w.low_keys) 0 = zero_still 0 w.low_keys w'.low_keys p.low_keys_zero same.low_keys_same in
    let e_words : w'.words ≡ replicate (length w.words) 0 = zero_still 0 w.words w'.words p.words_zero same.words_same in
    let e_scratch : w'.scratch ≡ replicate (length w.scratch) 0 = zero_still 0 w.scratch w'.scratch p.scratch_zero same.scratch_same in
    let e_index : w'.index ≡ replicate (length w.index) 0 = zero_still 0 w.index w'.index p.index_zero same.index_same in
    let e_numbers : w'.numbers ≡ replicate (length w.numbers) 0 = zero_still 0 w.numbers w'.numbers p.numbers_zero same.numbers_same in
    let e_adjacency : w'.adjacency ≡ replicate (length w.adjacency) 0 = zero_still 0 w.adjacency w'.adjacency p.adjacency_zero same.adjacency_same in
    let e_queue : w'.queue ≡ replicate (length w.queue) 0 = zero_still 0 w.queue w'.queue p.queue_zero same.queue_same in
    let e_offsets : w'.offsets ≡ replicate (length w.offsets) 0 = zero_still 0 w.offsets w'.offsets p.offsets_zero same.offsets_same in
    let e_floats : w'.floats ≡ replicate (length w.floats) zero32 = zero_still zero32 w.floats w'.floats p.floats_zero same.floats_same in
    let e_plane_triangles : w'.plane_triangles ≡ replicate (length w.plane_triangles) 0 = zero_still 0 w.plane_triangles w'.plane_triangles p.plane_triangles_zero same.plane_triangles_same in
    let e_plane_floats : w'.plane_floats ≡ replicate (length w.plane_floats) zero32 = zero_still zero32 w.plane_floats w'.plane_floats p.plane_floats_zero same.plane_floats_same in
    let e_plane_words : w'.plane_words ≡ replicate (length w.plane_words) 0 = zero_still 0 w.plane_words w'.plane_words p.plane_words_zero same.plane_words_same in
    let e_plane_edges : w'.plane_edges ≡ replicate (length w.plane_edges) zero32 = zero_still zero32 w.plane_edges w'.plane_edges p.plane_edges_zero same.plane_edges_same in
    ap19 e_triangles e_handles e_tree e_nodes e_leaf_order e_keys e_low_keys e_words e_scratch e_index e_numbers e_adjacency e_queue e_offsets e_floats e_plane_triangles e_plane_floats e_plane_words e_plane_edges
