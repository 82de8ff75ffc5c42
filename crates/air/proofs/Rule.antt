-- The power rule: at each entry of the table by one computed test, from there at every s; and that only one number serves.
use Rattle.std.proofs.Common.{◌≡◌, ℕ, suc, ◌+◌, ◌*◌, ◌/◌, ◌%◌, ◌^◌, ◌<◌, Bool, ◌&&◌, T, ltb, leb, get_or, subst, mod-lt, zero-lt-suc, arith, ltb→lt, leb→le}
use lib.Ieee.Fits.{and_l, and_r}
use Rattle.air.specs.Table.{factor_table}
use Rattle.air.specs.Air.{Serves, factor_of_steps}
use Rattle.air.proofs.Every.{at, every}
use Rattle.air.proofs.Later.{ServesIn, later_times, one_serves}

abbrev right : ℕ → ℕ → Bool
right s k = leb (k ^ 400 * 10 ^ s) (2 ^ 9600) && ltb (2 ^ 9600) (suc k ^ 400 * 10 ^ s)

all : T (every right 0 factor_table)
unfolding factor_table
all = tt

rule : (s : ℕ) → s < 400 → T (right s (get_or factor_table s 0))
unfolding factor_table
rule s h = at right factor_table all s h

serves_of : (s k : ℕ) → T (right s k) → ServesIn 400 (2 ^ 9600) s k
serves_of s k t = record {
  low = leb→le (k ^ 400 * 10 ^ s) (2 ^ 9600) (and_l (leb (k ^ 400 * 10 ^ s) (2 ^ 9600)) (ltb (2 ^ 9600) (suc k ^ 400 * 10 ^ s)) t);
  high = ltb→lt (2 ^ 9600) (suc k ^ 400 * 10 ^ s) (and_r (leb (k ^ 400 * 10 ^ s) (2 ^ 9600)) (ltb (2 ^ 9600) (suc k ^ 400 * 10 ^ s)) t);
}

-- "Larger s divides by ten for each 400 steps, rounding down": the rule holds at every s
pub factor_rule : (s : ℕ) → Serves s (factor_of_steps s)
unfolding factor_of_steps
factor_rule s =
    let r : ServesIn 400 (2 ^ 9600) s (get_or factor_table (s % 400) 0 / 10 ^ (s / 400)) =
    subst (λ (x : ℕ). ServesIn 400 (2 ^ 9600) x (get_or factor_table (s % 400) 0 / 10 ^ (s / 400)))
    (let e : s % 400 + s / 400 * 400 ≡ s = omega arith in e)
    (later_times (s / 400) 400 (2 ^ 9600) (s % 400) (get_or factor_table (s % 400) 0)
    (serves_of (s % 400) (get_or factor_table (s % 400) 0) (rule (s % 400) (mod-lt s (zero-lt-suc 399)))))
    in record { low = r.low; high = r.high }

-- the k of an s is the only one
pub only_factor : (s k : ℕ) → Serves s k → k ≡ factor_of_steps s
only_factor s k h =
    let r = factor_rule s in
    one_serves 400 (2 ^ 9600) s k (factor_of_steps s) (record { low = h.low; high = h.high }) (record { low = r.low; high = r.high })
