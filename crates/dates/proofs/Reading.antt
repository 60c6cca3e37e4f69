-- Laws of reading: a text's parts as the code takes them, and how large a value that was read can be.
use Prim.Native.Nat.{ℕ, zero, suc, ◌+◌, ◌-◌, ◌*◌, ◌%◌, ◌≤◌, ◌<◌}
use mathlib.Core.Path.{◌≡◌, refl, sym, ap, ◌∙◌}
use mathlib.Core.Logic.{inl, inr}
use mathlib.Core.Bool.{Bool, true, false, ◌&&◌}
use mathlib.Core.List.{List, [], ◌∷◌}
use Rattle.std.specs.Prelude.{Option, Some, None}
use native.Mathlib.Omega.{arith}
use native.Mathlib.Nat.{le_of_eq, not-suc-le-zero, le_of_suc-le-suc}
use native.Mathlib.Numerals.{add-one}
use mir.Val.{Fits}
use mir.Syntax.{w64}
use lib.ListN.{length, get_or, take, drop, length-drop, drop_of_length-le}
use lib.Seq.{take_all, drop-cons}
use lib.Dec.{ltb}
use borrow.Author.Tests.{ltb-true, ltb-false, leb-true, lt-ltb, le-ltb}
use Rattle.buffers.specs.Choices.{pick, then_some}
use Rattle.buffers.specs.Lists.{all}
use Rattle.buffers.specs.Ranges.{Within}
use Rattle.buffers.proofs.Tests.{either, and_l, and_r}
use Rattle.text.specs.Numbers.{is_digit}
use Rattle.calendar.specs.declared.Civil.{Civil}
use Rattle.calendar.specs.Calendar.{latest, valid_day, days_of}
use Rattle.dates.specs.Reading.{digit_of, two_digits, day_number, day_at, second_of_day, second_at, fraction_digit, milliseconds, fraction_of, read_date}
use Rattle.calendar.proofs.Days.{days_most}

-- whatever is read is at most k
pub record Most (k : ℕ) (w : Option ℕ) : Type 0 where
  pub most : (n : ℕ) → w ≡ Some n → n ≤ k

module _ (k : ℕ) where
  most_none : Most k None
  most_none = record { most = λ n e. let z : ◌≡◌ {A = ℕ} 0 1 = cc in absurd (omega arith) }

  most_some : (a : ℕ) → a ≤ k → Most k (Some a)
  most_some a h = record { most = λ n e. let q : a ≡ n = cc in omega arith }

  most_zero : Most k (Some 0)
  most_zero = most_some 0 (omega arith)

  most_pick : (t : Bool) (x y : Option ℕ) → (t ≡ true → Most k x) → (t ≡ false → Most k y) → Most k (pick t x y)
  most_pick true x y f g = f refl
  most_pick false x y f g = g refl

  most_then : (w : Option ℕ) (f : ℕ → Option ℕ) → ((a : ℕ) → w ≡ Some a → Most k (f a)) → Most k (then_some w None f)
  most_then None f g = most_none
  most_then (Some a) f g = g a refl

ruleset ways = (most_none, most_pick, most_then)

-- ## Digits

digit_span : (b : ℕ) → is_digit b ≡ true → (48 ≤ b) × (b ≤ 57)
unfolding is_digit
digit_span b =
    elim (either (ltb b 48)) [
      | inl t ↦ λ e. let f : false ≡ true = rw t at e in let z : ◌≡◌ {A = ℕ} 0 1 = cc in absurd (omega arith)
      | inr t ↦ λ e. (ltb-false b 48 t, leb-true b 57 (rw t at e))
    ]

pub digit_least : (b : ℕ) → is_digit b ≡ true → 48 ≤ b
digit_least b e = (digit_span b e).0

pub digit_value : (b : ℕ) → is_digit b ≡ true → Within (b - 48) (b - 48) 9
digit_value b e = record { is = refl; most = omega (arith, digit_span b e) }

digit_most : (b : ℕ) → Most 9 (digit_of b)
unfolding digit_of
digit_most b = search (ways, leaf)
  where
    leaf : (b : ℕ) → is_digit b ≡ true → Most 9 (Some (b - 48))
    leaf b t = most_some 9 (b - 48) (omega (arith, digit_span b t))

two_most : (s : List ℕ) (i : ℕ) → Most 99 (two_digits s i)
unfolding two_digits
two_most s i = search (ways, leaf)
  where
    leaf : (x y a b : ℕ) → digit_of x ≡ Some a → digit_of y ≡ Some b → Most 99 (Some (a * 10 + b))
    leaf x y a b ea eb = most_some 99 (a * 10 + b) (omega (arith, (digit_most x).most a ea, (digit_most y).most b eb))

module _ (r : Option ℕ) (n : ℕ) where
  pub digit_ten : (b : ℕ) → r ≡ digit_of b → r ≡ Some n → Fits w64 (n * 10)
  digit_ten b e t = let q : digit_of b ≡ Some n = cc in omega (arith, (digit_most b).most n q)

  pub digit_sum : (b : ℕ) (q : Option ℕ) (m c : ℕ) → r ≡ digit_of b → r ≡ Some n → q ≡ digit_of c → q ≡ Some m → Fits w64 (n * 10 + m)
  digit_sum b q m c e t f u =
      let x : digit_of b ≡ Some n = cc in
      let y : digit_of c ≡ Some m = cc in
      omega (arith, (digit_most b).most n x, (digit_most c).most m y)

  pub two_hundred : (s : List ℕ) (i : ℕ) → r ≡ two_digits s i → r ≡ Some n → Fits w64 (n * 100)
  two_hundred s i e t = let q : two_digits s i ≡ Some n = cc in omega (arith, (two_most s i).most n q)

  pub two_byte : (s : List ℕ) (i y : ℕ) → r ≡ two_digits s i → r ≡ Some n → Fits w64 (n * 100 + y % 256)
  two_byte s i y e t = let q : two_digits s i ≡ Some n = cc in omega (arith, (two_most s i).most n q)

  pub two_ten : (s : List ℕ) (i : ℕ) → r ≡ two_digits s i → r ≡ Some n → Fits w64 (n * 10)
  two_ten s i e t = let q : two_digits s i ≡ Some n = cc in omega (arith, (two_most s i).most n q)

  pub two_digit : (s : List ℕ) (i : ℕ) (q : Option ℕ) (m c : ℕ) → r ≡ two_digits s i → r ≡ Some n → q ≡ digit_of c → q ≡ Some m → Fits w64 (n * 10 + m)
  two_digit s i q m c e t f u =
      let x : two_digits s i ≡ Some n = cc in
      let y : digit_of c ≡ Some m = cc in
      omega (arith, (two_most s i).most n x, (digit_most c).most m y)

pub ruleset digit_sums = (digit_ten, digit_sum, two_hundred, two_byte, two_ten, two_digit)

-- ## Runs of digits

run : (s : List ℕ) (i : ℕ) → i < length s → all is_digit (drop i s) ≡ (is_digit (get_or s i 0) && all is_digit (drop (i + 1) s))
run s i h = rw (add-one, drop-cons s i 0)

pub run_step : (s : List ℕ) (i : ℕ) (b r : Bool) → i < length s → r ≡ is_digit (get_or s i 0) → r ≡ true → b ≡ all is_digit (drop i s) → b ≡ all is_digit (drop (i + 1) s)
run_step s i b r h er t e = e ∙ run s i h ∙ rw (sym er ∙ t)

pub run_stop : (s : List ℕ) (i : ℕ) (b r : Bool) → i < length s → r ≡ is_digit (get_or s i 0) → r ≡ false → b ≡ all is_digit (drop i s) → false ≡ b
run_stop s i b r h er t e = sym (e ∙ run s i h ∙ rw (sym er ∙ t))

pub run_end : (s : List ℕ) (i : ℕ) (b : Bool) → length s ≤ i → b ≡ all is_digit (drop i s) → true ≡ b
run_end s i b h e = sym (e ∙ rw (drop_of_length-le s h))

pub ruleset runs = (run_step, run_stop, run_end)

pub run_at : (s : List ℕ) (i : ℕ) → all is_digit s ≡ true → i < length s → is_digit (get_or s i 0) ≡ true
run_at [] i e h = absurd (not-suc-le-zero h)
run_at (x ∷ xs) zero e h = and_l (is_digit x) _ e
run_at (x ∷ xs) (suc i) e h = run_at xs i (and_r (is_digit x) _ e) (le_of_suc-le-suc h)

-- ## The fraction

pub place_in : (s : List ℕ) (i r : ℕ) → i < length s → Within r (get_or s i 0 - 48) 9 → Within r (fraction_digit s i) 9
unfolding fraction_digit
place_in s i r h e = record { is = rw (lt-ltb i (length s) h) e.is; most = e.most }

pub place_out : (s : List ℕ) (i : ℕ) → length s ≤ i → Within 0 (fraction_digit s i) 9
unfolding fraction_digit
place_out s i h = record { is = rw (le-ltb i (length s) h); most = omega arith }

pub ruleset places = (run_at, place_in, place_out)

pub places_sum : (s : List ℕ) (x y z : ℕ) → Within x (fraction_digit s 0) 9 → Within y (fraction_digit s 1) 9 → Within z (fraction_digit s 2) 9
    → Some (x * 100 + y * 10 + z) ≡ Some (fraction_digit s 0 * 100 + fraction_digit s 1 * 10 + fraction_digit s 2)
places_sum s x y z ex ey ez = rw (ex.is, ey.is, ez.is)

three_digits : (s : List ℕ) → length s ≡ 3 → milliseconds s ≡ then_some (two_digits s 0) None (λ a. then_some (digit_of (get_or s 2 0)) None (λ b. Some (a * 10 + b)))
unfolding milliseconds fraction_digit two_digits digit_of
three_digits [] e = absurd (omega arith)
three_digits (x ∷ []) e = absurd (omega arith)
three_digits (x ∷ y ∷ []) e = absurd (omega arith)
three_digits (x ∷ y ∷ z ∷ []) e = chosen (is_digit x) (is_digit y) (is_digit z) (x - 48) (y - 48) (z - 48)
  where
    chosen : (a b c : Bool) (x y z : ℕ) → pick (a && (b && (c && true))) (Some (x * 100 + y * 10 + z)) None
        ≡ then_some (then_some (pick a (Some x) None) None (λ k. then_some (pick b (Some y) None) None (λ m. Some (k * 10 + m)))) None (λ k. then_some (pick c (Some z) None) None (λ m. Some (k * 10 + m)))
    chosen true true true x y z = ap Some (omega arith)
    chosen true true false x y z = refl
    chosen true false c x y z = refl
    chosen false b c x y z = refl
three_digits (x ∷ y ∷ z ∷ w ∷ s) e = absurd (omega arith)

pub three_are : (s : List ℕ) (v : Option ℕ) → length s ≡ 3 → v ≡ then_some (two_digits s 0) None (λ a. then_some (digit_of (get_or s 2 0)) None (λ b. Some (a * 10 + b))) → v ≡ milliseconds s
three_are s v h e = e ∙ sym (three_digits s h)

-- the rest of a part, as a part of it
pub rest_is : (s : List ℕ) (v : Option ℕ) → v ≡ milliseconds (take (length s - 1) (drop 1 s)) → v ≡ milliseconds (drop 1 s)
rest_is s v e = e ∙ ap milliseconds (take_all (length s - 1) (drop 1 s) (le_of_eq (length-drop 1 s)))

place_most : (s : List ℕ) (i : ℕ) → all is_digit s ≡ true → fraction_digit s i ≤ 9
unfolding fraction_digit
place_most s i e =
    elim (either (ltb i (length s))) [
      | inl t ↦ rw t (omega (arith, digit_span (get_or s i 0) (run_at s i e (ltb-true i (length s) t))))
      | inr t ↦ rw t (omega arith)
    ]

milliseconds_most : (s : List ℕ) → Most 999 (milliseconds s)
unfolding milliseconds
milliseconds_most s = search (ways, leaf)
  where
    leaf : (s : List ℕ) → all is_digit s ≡ true → Most 999 (Some (fraction_digit s 0 * 100 + fraction_digit s 1 * 10 + fraction_digit s 2))
    leaf s t = most_some 999 _ (omega (arith, place_most s 0 t, place_most s 1 t, place_most s 2 t))

fraction_most : (s : List ℕ) → Most 999 (fraction_of s)
unfolding fraction_of
fraction_most s = search (ways, most_zero, milliseconds_most)

-- ## The day and the time of day

number_most : (c : Civil) → Most 2932896 (day_number c)
unfolding day_number
number_most c = search (ways, leaf)
  where
    leaf : (c : Civil) → valid_day c ≡ true → Most 2932896 (Some (days_of c))
    leaf c t = most_some 2932896 (days_of c) (days_most c t)

day_most : (s : List ℕ) → Most 2932896 (day_at s)
unfolding day_at
day_most s = search (ways, number_most) depth 12

second_most : (h m s : ℕ) → Most 86399 (second_of_day h m s)
unfolding second_of_day
second_most h m s = search (ways, leaf)
  where
    leaf : (h m s : ℕ) → ltb 23 h ≡ false → ltb 59 m ≡ false → ltb 59 s ≡ false → Most 86399 (Some ((h * 60 + m) * 60 + s))
    leaf h m s a b d = most_some 86399 _ (omega (arith, ltb-false 23 h a, ltb-false 59 m b, ltb-false 59 s d))

time_most : (s : List ℕ) → Most 86399 (second_at s)
unfolding second_at
time_most s = search (ways, second_most) depth 12

module _ (r : Option ℕ) (s : List ℕ) (n : ℕ) where
  pub day_bound : r ≡ day_at s → r ≡ Some n → n ≤ 2932896
  day_bound e t = (day_most s).most n (cc)

  pub time_bound : r ≡ second_at s → r ≡ Some n → n ≤ 86399
  time_bound e t = (time_most s).most n (cc)

  pub fraction_bound : r ≡ fraction_of s → r ≡ Some n → n ≤ 999
  fraction_bound e t = (fraction_most s).most n (cc)

pub ruleset bounds = (day_bound, time_bound, fraction_bound)

-- ## The date

read_is_most : (s : List ℕ) → Most latest (read_date s)
unfolding read_date
read_is_most s = search (ways, leaf) depth 12
  where
    leaf : (s f : List ℕ) (d k m : ℕ) → day_at s ≡ Some d → second_at s ≡ Some k → fraction_of f ≡ Some m → Most latest (Some (d * 86400000 + k * 1000 + m))
    leaf s f d k m x y z = most_some latest _ (omega (arith, (day_most s).most d x, (time_most s).most k y, (fraction_most f).most m z))

-- Whatever is read is an instant.
pub read_most : (s : List ℕ) (t : ℕ) → read_date s ≡ Some t → t ≤ latest
read_most s = (read_is_most s).most
