-- Document 01, "Known points", case A: the call, and what is known of its answer. `reference/findings/a_case_a.case` is the same call for the Rust.
use Rattle.std.specs.Prelude.{ℕ, Bool, true, false, List, [], ◌∷◌, ◌++◌, map, Float, replicate}
use Rattle.std.specs.Float.{binary32}
use Rattle.std.specs.Float.Ieee.{round, of_bits}
use Rattle.vector.specs.declared.Vec3.{Vec3}
use Rattle.vector.specs.Vector.{vec}
use Rattle.bands.specs.declared.DistanceCurve.TheVariants.{Inverse}
use Rattle.bands.specs.Band8.{splat_of}
use Rattle.scene.specs.declared.Settings.{Settings}
use Rattle.scene.specs.Limits.{max_crossings, visibility_radius}
use Rattle.scene.specs.Scene.{Scene, scene}
use Rattle.scene.specs.Areas.{area_table, least_of}
use Rattle.ranking.specs.declared.Candidate.{Candidate}
use Rattle.claim.specs.Answer.{Answer}

-- ---- numbers

-- the float nearest to n / d, as the Rust reads a literal; and to - n / d
abbrev pub number : ℕ → ℕ → Float
number n d = round binary32 false n d

abbrev pub minus : ℕ → ℕ → Float
minus n d = round binary32 true n d

abbrev pub whole : ℕ → Float
whole n = number n 1

-- ---- the call

-- "fade 0.1, .. Inverse with reference, rolloff and least distance 1, .. rate 48,000, .. other settings the Rust's defaults"; document 02, Note 4: "Case A moves to 20 degrees"
abbrev pub settings : Settings
settings =
    record {
      max_reflection_order = 3;
      max_reflections = 16;
      max_reflection_planes = 32;
      reflection_edge_fade = number 1 10;
      max_reflection_distance = whole 50;
      temperature_celsius = whole 20;
      sample_rate = whole 48000;
      -- the cosine of 5 degrees
      plane_merge_cos = of_bits binary32 0x3f7f_069e;
      plane_merge = true;
      plane_merge_offset = number 1 4;
      plane_buried_distance = number 1 20;
      distance_model = record {
        curve = Inverse;
        reference_distance = whole 1;
        rolloff_factor = whole 1;
        min_distance = whole 1;
        max_distance = whole 10000;
      };
      crossing_limit = max_crossings;
      probe_radius = visibility_radius;
      -- the air takes nothing: "all 0 in case A"
      air = record { a0 = 0; a1 = 0; a2 = 0; a3 = 0; a4 = 0; a5 = 0; a6 = 0; a7 = 0 };
    }

-- "C 1"
abbrev pub room : ℕ
room = 1

-- "identity transform"
abbrev pub identity : List Float
identity =
    whole 1 ∷ whole 0 ∷ whole 0 ∷ whole 0
    ∷ whole 0 ∷ whole 1 ∷ whole 0 ∷ whole 0
    ∷ whole 0 ∷ whole 0 ∷ whole 1 ∷ whole 0
    ∷ whole 0 ∷ whole 0 ∷ whole 0 ∷ whole 1 ∷ []

-- "corners (−4,0,−4), (4,0,−4), (4,0,4), (−4,0,4)"
abbrev pub positions : List Float
positions =
    minus 4 1 ∷ whole 0 ∷ minus 4 1
    ∷ whole 4 ∷ whole 0 ∷ minus 4 1
    ∷ whole 4 ∷ whole 0 ∷ whole 4
    ∷ minus 4 1 ∷ whole 0 ∷ whole 4 ∷ []

-- "triangles 0 1 2 and 0 2 3"
abbrev pub indices : List ℕ
indices = 0 ∷ 1 ∷ 2 ∷ 0 ∷ 2 ∷ 3 ∷ []

-- "absorption 0.75", in each band; transmission 0
abbrev pub materials : List Float
materials = replicate 8 (number 3 4) ++ replicate 8 (whole 0)

-- one mesh of 4 vertices and 6 indices, whose material is the one row of the table
abbrev pub floor : Scene
floor = scene (4 ∷ 6 ∷ 0 ∷ []) identity positions indices materials 1

-- areas as short as two triples and a room of one candidate allow
abbrev pub least_lengths : List ℕ
least_lengths = map (λ a. least_of a 2 room) area_table

-- "source (0,2,0), listener (3,2,0)"
abbrev pub source : Vec3
source = vec (whole 0) (whole 2) (whole 0)

abbrev pub listener : Vec3
listener = vec (whole 3) (whole 2) (whole 0)

abbrev pub separated : Bool
separated = false

-- "with source y = 0.00005, .. with y = 0.0001"
abbrev pub near_source : Vec3
near_source = vec (whole 0) (number 5 100000) (whole 0)

abbrev pub far_source : Vec3
far_source = vec (whole 0) (number 1 10000) (whole 0)

-- ---- what is known

-- "image (0,−2,0)"
abbrev pub image : Vec3
image = vec (whole 0) (minus 2 1) (whole 0)

-- "speed the f32 nearest 343.2"
abbrev pub speed : Float
speed = number 3432 10

-- "bounce (1.5,0,0)"
abbrev pub bounce : Vec3
bounce = vec (number 3 2) (whole 0) (whole 0)

-- "order 1, number 1"; the delay is 5 metres times 48,000 by the speed, 699.30066; the bounce lies from the listener at (−0.6, −0.8, 0), and each gain
-- is 0.1: half the sound after an absorption of 0.75, over 5 metres
abbrev pub tap : Candidate
tap =
    record {
      energy = of_bits binary32 0x3da3_d70b;
      order = 1;
      delay = of_bits binary32 0x442e_d33e;
      direction = vec (minus 3 5) (minus 4 5) (whole 0);
      gains = splat_of (number 1 10);
      number = 1;
    }

-- "images 1, rays 36"
abbrev pub answer : Answer
answer = record { images = 1; rays = 36; taps = tap ∷ [] }

-- the packet of it: count (two bytes), images and rays, then the tap's bit map, order, number, direction, delay and its eight gains
abbrev pub packet : List ℕ
packet =
    1 ∷ 0 ∷ 1 ∷ 0 ∷ 0 ∷ 0 ∷ 36 ∷ 0 ∷ 0 ∷ 0
    ∷ 0xff ∷ 1 ∷ 1 ∷ 0 ∷ 0 ∷ 0
    ∷ 0x9a ∷ 0x99 ∷ 0x19 ∷ 0xbf ∷ 0xcd ∷ 0xcc ∷ 0x4c ∷ 0xbf ∷ 0 ∷ 0 ∷ 0 ∷ 0
    ∷ 0x3e ∷ 0xd3 ∷ 0x2e ∷ 0x44
    ∷ 0xcd ∷ 0xcc ∷ 0xcc ∷ 0x3d ∷ 0xcd ∷ 0xcc ∷ 0xcc ∷ 0x3d ∷ 0xcd ∷ 0xcc ∷ 0xcc ∷ 0x3d ∷ 0xcd ∷ 0xcc ∷ 0xcc ∷ 0x3d
    ∷ 0xcd ∷ 0xcc ∷ 0xcc ∷ 0x3d ∷ 0xcd ∷ 0xcc ∷ 0xcc ∷ 0x3d ∷ 0xcd ∷ 0xcc ∷ 0xcc ∷ 0x3d ∷ 0xcd ∷ 0xcc ∷ 0xcc ∷ 0x3d ∷ []
