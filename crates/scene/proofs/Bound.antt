-- The least lengths of the work areas together keep document 01's bound: 1,024 words of 32 bits a triple, 24 a candidate and 65,536 more.
use Prim.Native.Nat.{ℕ, ◌+◌, ◌*◌, ◌≤◌}
use native.Mathlib.Omega.{arith}
use Rattle.scene.specs.Areas.{words_in, work_words}

pub areas_bound : (t c : ℕ) → work_words t c ≤ 1024 * t + 24 * c + 65536
unfolding words_in
areas_bound t c = omega arith
