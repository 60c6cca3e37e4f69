-- What halving comes to.
use Rattle.std.specs.Prelude.{ℕ, ◌+◌, ◌≤◌, ◌<◌, ◌≡◌, Bool, true, Result, Ok, Err}
use Rattle.std.specs.declared.cmp.Ordering.{Ordering}
use Rattle.std.specs.declared.cmp.Ordering.TheVariants.{Less, Equal, Greater}
use Rattle.search.specs.Places.{place_found}

-- a place from start to end, by what the places answer: the one in front of it stands before what is sought, and it does not itself
pub record Halved (answers : ℕ → Ordering → Type 0) (start end : ℕ) (r : Result ℕ ℕ) : Type 0 where
  pub from : start ≤ place_found r
  pub to : place_found r ≤ end
  pub passed : (i : ℕ) → start ≤ i → i + 1 ≡ place_found r → answers i Less
  pub there : (i : ℕ) → r ≡ Ok i → i < end
  pub found : (i : ℕ) → r ≡ Ok i → answers i Equal
  pub missing : (i : ℕ) → r ≡ Err i → i < end → answers i Greater

-- whether a halving ends only where no place is left: where the first one is asked for, or none was met
abbrev pub goes_on : Bool → Result ℕ ℕ → Bool
goes_on first (Ok i) = first
goes_on first (Err i) = true

-- where it ends: at a place that it met and is what is sought, or where halving comes to
pub record Ended (first : Bool) (answers : ℕ → Ordering → Type 0) (start end : ℕ) (r : Result ℕ ℕ) : Type 0 where
  pub from : start ≤ place_found r
  pub there : (i : ℕ) → r ≡ Ok i → i < end
  pub found : (i : ℕ) → r ≡ Ok i → answers i Equal
  pub halved : goes_on first r ≡ true → Halved answers start end r
