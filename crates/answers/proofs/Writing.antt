-- Laws of writing an answer: a field behind its tab, and the line field by field.
use Prim.Native.Nat.{ℕ, ◌+◌, ◌*◌, ◌≤◌}
use mathlib.Core.Path.{◌≡◌, sym, ◌∙◌}
use mathlib.Core.Bool.{Bool, true, false}
use Rattle.model.specs.Rows.{is_data}
use mathlib.Core.List.{List, [], ◌∷◌, append_assoc}
use native.Mathlib.Omega.{arith}
use lib.ListN.{length}
use Rattle.buffers.specs.Texts.{bytes}
use Rattle.buffers.specs.Writes.{Wrote}
use Rattle.buffers.proofs.Writes.{wrote_both, wrote_wider}
use Rattle.text.specs.Printing.{digits}
use Rattle.model.specs.Refusals.{row_room}
use Rattle.table.specs.Places.{row_from}
use Rattle.table.specs.declared.Numbers.{Numbers}
use Rattle.answers.specs.Text.{longest_answer, fields_text, ok_text, data_fields, marker_fields, kind_fields, fields_behind_key, row_text}

-- ## A field: with its tab at most 25 bytes

pub tab_then : (out : List ℕ) (a : ℕ) (m : List ℕ) (r : ℕ) (f : List ℕ) (j : ℕ) (exit : List ℕ) (q : ℕ)
    → Wrote out a (9 ∷ []) 1 m r → Wrote m r f j exit q → a + 25 ≤ length out → j ≤ 24 → Wrote out a (9 ∷ f) 25 exit q
tab_then out a m r f j exit q x y h n = wrote_wider (wrote_both out a (9 ∷ []) 1 m r f j exit q (omega arith) x y) (omega arith)

pub field_as : (out : List ℕ) (a : ℕ) (f g : List ℕ) (exit : List ℕ) (r : ℕ) → Wrote out a (9 ∷ f) 25 exit r → f ≡ g → Wrote out a (9 ∷ g) 25 exit r
field_as out a f g exit r w e = rw e at w

-- ## A line

-- Where there is room, the fields and the line feed were written.
record Ends (out : List ℕ) (a : ℕ) (fs : List (List ℕ)) (exit : List ℕ) (r : ℕ) : Type 0 where
  wrote : a + (length fs * 25 + 1) ≤ length out → Wrote out a (fields_text fs) (length fs * 25 + 1) exit r

feed_last : {out : List ℕ} {a : ℕ} {exit : List ℕ} {r : ℕ} → Wrote out a (10 ∷ []) 1 exit r → Ends out a [] exit r
unfolding fields_text
feed_last w = record { wrote = λ h. w }

-- A field in front of others, whatever they take.
field_more : {out : List ℕ} {a : ℕ} {f : List ℕ} {j : ℕ} {m : List ℕ} {r : ℕ} {k : ℕ} {exit : List ℕ} {q : ℕ} (fs : List (List ℕ))
    → a ≤ length out → Wrote out a (9 ∷ f) j m r → Wrote m r (fields_text fs) k exit q → Wrote out a (fields_text (f ∷ fs)) (j + k) exit q
unfolding fields_text
field_more {out} {a} {f} {j} {m} {r} {k} {exit} {q} fs h x y = rw append_assoc (wrote_both out a (9 ∷ f) j m r (fields_text fs) k exit q h x y)

field_then : {out : List ℕ} {a : ℕ} {f m : List ℕ} {r : ℕ} {fs : List (List ℕ)} {exit : List ℕ} {q : ℕ}
    → Wrote out a (9 ∷ f) 25 m r → Ends m r fs exit q → Ends out a (f ∷ fs) exit q
field_then {out} {a} {f} {m} {r} {fs} {exit} {q} x y =
    record { wrote = λ h. wrote_wider (field_more fs (omega arith) x (y.wrote (omega (arith, x.long, x.most)))) (omega arith) }

ok_then : {out m : List ℕ} {r : ℕ} {fs : List (List ℕ)} {exit : List ℕ} {q : ℕ}
    → Wrote out 0 (bytes "ok") 2 m r → Ends m r fs exit q → longest_answer ≤ length out → length fs ≤ 6 → Wrote out 0 (ok_text fs) longest_answer exit q
unfolding ok_text
ok_then {out} {m} {r} {fs} {exit} {q} x y h n =
    let j : ℕ = length fs * 25 + 1 in
    let room : r + j ≤ length m = omega (arith, x.long, x.most) in
    wrote_wider (wrote_both out 0 (bytes "ok") 2 m r (fields_text fs) j exit q (omega arith) x (y.wrote room)) (omega arith)

module _ (out m₁ : List ℕ) (r₁ : ℕ) (exit : List ℕ) (r : ℕ) (room : longest_answer ≤ length out) (ok : Wrote out 0 (bytes "ok") 2 m₁ r₁) where
  pub no_field : Wrote m₁ r₁ (10 ∷ []) 1 exit r → Wrote out 0 (ok_text []) longest_answer exit r
  no_field x = ok_then ok (feed_last x) room (omega arith)

  pub all_fields : (fs : List (List ℕ)) → Wrote m₁ r₁ (fields_text fs) (length fs * 25 + 1) exit r → length fs ≤ 6 → Wrote out 0 (ok_text fs) longest_answer exit r
  all_fields fs y n = ok_then ok (record { wrote = λ h. y }) room n

  module _ (f m₂ : List ℕ) (r₂ : ℕ) (x : Wrote m₁ r₁ (9 ∷ f) 25 m₂ r₂) where
    pub two_then : (g m₃ : List ℕ) (r₃ : ℕ) (fs : List (List ℕ)) → Wrote m₂ r₂ (9 ∷ g) 25 m₃ r₃ → Wrote m₃ r₃ (fields_text fs) (length fs * 25 + 1) exit r → length fs ≤ 4
        → Wrote out 0 (ok_text (f ∷ g ∷ fs)) longest_answer exit r
    two_then g m₃ r₃ fs y z n = ok_then ok (field_then x (field_then y (record { wrote = λ h. z }))) room (omega arith)

module _ (out : List ℕ) (a : ℕ) (f m : List ℕ) (r : ℕ) (exit : List ℕ) (q : ℕ) (x : Wrote out a (9 ∷ f) 25 m r) where
  pub one_last : a + 26 ≤ length out → Wrote m r (10 ∷ []) 1 exit q → Wrote out a (fields_text (f ∷ [])) 26 exit q
  one_last room y = (field_then x (feed_last y)).wrote room

  pub one_more : (fs : List (List ℕ)) (n : ℕ) → a + n ≤ length out → Wrote m r (fields_text fs) (length fs * 25 + 1) exit q → length fs * 25 + 26 ≤ n
      → Wrote out a (fields_text (f ∷ fs)) n exit q
  one_more fs n room y l = wrote_wider ((field_then x (record { wrote = λ h. y })).wrote (omega arith)) (omega arith)

module _ (out : List ℕ) (a : ℕ) (f m₁ : List ℕ) (r₁ : ℕ) (g m₂ : List ℕ) (r₂ : ℕ) (exit : List ℕ) (r : ℕ)
    (x : Wrote out a (9 ∷ f) 25 m₁ r₁) (y : Wrote m₁ r₁ (9 ∷ g) 25 m₂ r₂) where
  pub two_last : a + 51 ≤ length out → Wrote m₂ r₂ (10 ∷ []) 1 exit r → Wrote out a (fields_text (f ∷ g ∷ [])) 51 exit r
  two_last room z = (field_then x (field_then y (feed_last z))).wrote room

  pub three_last : (k m₃ : List ℕ) (r₃ : ℕ) → a + 76 ≤ length out → Wrote m₂ r₂ (9 ∷ k) 25 m₃ r₃ → Wrote m₃ r₃ (10 ∷ []) 1 exit r
      → Wrote out a (fields_text (f ∷ g ∷ k ∷ [])) 76 exit r
  three_last k m₃ r₃ room z w = (field_then x (field_then y (field_then z (feed_last w)))).wrote room

  pub two_more : (fs : List (List ℕ)) (n : ℕ) → a + n ≤ length out → Wrote m₂ r₂ (fields_text fs) (length fs * 25 + 1) exit r → length fs * 25 + 51 ≤ n
      → Wrote out a (fields_text (f ∷ g ∷ fs)) n exit r
  two_more fs n room z l = wrote_wider ((field_then x (field_then y (record { wrote = λ h. z }))).wrote (omega arith)) (omega arith)

-- ## A row's line in a page

module _ (out : List ℕ) (a : ℕ) (m₁ : List ℕ) (r₁ : ℕ) (f m₂ : List ℕ) (r₂ : ℕ) (exit : List ℕ) (r : ℕ) (room : a + 156 ≤ length out) where
  pub data_wrote : (fs : List (List ℕ)) → Wrote out a (bytes "\tdata") 5 m₁ r₁ → Wrote m₁ r₁ (9 ∷ f) 25 m₂ r₂ → Wrote m₂ r₂ (fields_text fs) 126 exit r
      → Wrote out a (fields_text (bytes "data" ∷ f ∷ fs)) 156 exit r
  data_wrote fs w x y = field_more (f ∷ fs) (omega arith) w (field_more fs (omega (arith, w.long, w.most)) x y)

  pub marker_wrote : Wrote out a (bytes "\tmarker") 7 m₁ r₁ → Wrote m₁ r₁ (9 ∷ f) 25 m₂ r₂ → Wrote m₂ r₂ (bytes "\t-\t-\t-\t-\tOFF\n") 13 exit r
      → Wrote out a (fields_text (bytes "marker" ∷ f ∷ bytes "-" ∷ bytes "-" ∷ bytes "-" ∷ bytes "-" ∷ bytes "OFF" ∷ [])) 156 exit r
  unfolding fields_text
  marker_wrote w x y =
      let fs : List (List ℕ) = bytes "-" ∷ bytes "-" ∷ bytes "-" ∷ bytes "-" ∷ bytes "OFF" ∷ [] in
      wrote_wider (field_more (f ∷ fs) (omega arith) w (field_more fs (omega (arith, w.long, w.most)) x y)) (omega arith)

module _ (out : List ℕ) (a : ℕ) (n : Numbers) (m : List ℕ) (r : ℕ) (exit : List ℕ) (q : ℕ) (room : a + 181 ≤ length out) (x : Wrote out a (9 ∷ digits n.number) 25 m r) where
  pub fields_data : (k : Bool) → ((key : List ℕ) → k ≡ is_data (row_from n key)) → k ≡ true → Wrote m r (fields_text (data_fields (row_from n []))) 156 exit q → Wrote out a (fields_text (fields_behind_key (row_from n []))) 181 exit q
  unfolding kind_fields
  fields_data k e t y = field_more {k = 156} (kind_fields (row_from n [])) (omega arith) x (rw (sym (e []) ∙ t) y)

  pub fields_marker : (k : Bool) → ((key : List ℕ) → k ≡ is_data (row_from n key)) → k ≡ false → Wrote m r (fields_text (marker_fields n.created)) 156 exit q → Wrote out a (fields_text (fields_behind_key (row_from n []))) 181 exit q
  unfolding kind_fields
  fields_marker k e t y = field_more {k = 156} (kind_fields (row_from n [])) (omega arith) x (rw (sym (e []) ∙ t) y)

pub ruleset fields_cases = (fields_data, fields_marker)

module _ (out : List ℕ) (a : ℕ) (key m : List ℕ) (r : ℕ) (h : a + row_room ≤ length out) (short : length key ≤ 63) (x : Wrote out a key (length key) m r) where
  pub fields_room : r + 181 ≤ length m
  fields_room = omega (arith, x.long, x.most)

  pub line_wrote : (n : Numbers) (exit : List ℕ) (q : ℕ) → Wrote m r (fields_text (fields_behind_key (row_from n []))) 181 exit q
      → Wrote out a (row_text (row_from n key)) row_room exit q
  unfolding fields_text kind_fields
  line_wrote n exit q y = rw append_assoc (wrote_wider (wrote_both out a key (length key) m r (fields_text (fields_behind_key (row_from n []))) 181 exit q (omega arith) x y) (omega arith))
