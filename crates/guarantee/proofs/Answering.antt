-- The number that an answer's bytes give is the number that the model's answer gives.
use Prim.Native.Nat.{ℕ, ◌+◌}
use mathlib.Core.Path.{◌≡◌, refl, sym, ◌∙◌, ap}
use mathlib.Core.Logic.{inl, inr}
use mathlib.Core.Bool.{true, false, not}
use mathlib.Core.List.{List, [], ◌∷◌, ◌++◌, append-nil, append_assoc}
use Rattle.std.specs.Prelude.{Some}
use native.Mathlib.Omega.{arith}
use lib.Dec.{eqb}
use borrow.Author.Tests.{eqb-true, eqb-false, not-true}
use Rattle.buffers.specs.Choices.{then_some}
use Rattle.buffers.specs.Lists.{same, begins}
use Rattle.buffers.proofs.Tests.{either, and_l, and_r, eqb_sym}
use Rattle.buffers.proofs.Lists.{same_refl, same_path}
use Rattle.text.specs.Numbers.{number_of}
use Rattle.text.specs.Printing.{digits}
use Rattle.text.proofs.RoundTrip.{number_back}
use Rattle.text.proofs.Joined.{without, visible_without, digits_visible}
use Rattle.calendar.specs.declared.Now.{Now}
use Rattle.model.specs.Rows.{is_marker}
use Rattle.model.specs.Settings.{Bucket}
use Rattle.model.specs.Requests.{Rights, numbered, name, Get, ListVersions, Report, Repeat, Verb, Put, Copy, Retain, Hold, AddMarker, DeleteVersion, Set, Sweep, Ask}
use Rattle.model.specs.Effects.{row_of}
use Rattle.model.specs.Answers.{made, reply, gives_number}
use Rattle.model.proofs.Invariant.{removal_answers, shown_answers}
use Rattle.answers.specs.Text.{fields_text, ok_text, answer_text}
use Rattle.outcome.specs.Outcome.{written}
use Rattle.guarantee.specs.Calls.{answers_number}

-- ## Printed numbers

-- What holds no line feed and is ended by one begins with what holds none either and a line feed where the two are the same.
begins_line : (xs ys rest : List ℕ) → without 10 xs ≡ true → without 10 ys ≡ true → begins (xs ++ (10 ∷ [])) (ys ++ (10 ∷ rest)) ≡ same xs ys
begins_line [] [] rest e f = refl
begins_line [] (y ∷ ys) rest e f = rw (eqb_sym 10 y, not-true (eqb y 10) (and_l _ _ f))
begins_line (x ∷ xs) [] rest e f = rw (not-true (eqb x 10) (and_l _ _ e))
begins_line (x ∷ xs) (y ∷ ys) rest e f = rw (begins_line xs ys rest (and_r (not (eqb x 10)) _ e) (and_r (not (eqb y 10)) _ f))

no_feed : (n : ℕ) → without 10 (digits n) ≡ true
no_feed n = visible_without 10 (omega arith) (digits n) (digits_visible n)

-- Two numbers are printed alike where they are the same.
same_digits : (v n : ℕ) → same (digits v) (digits n) ≡ eqb n v
same_digits v n =
    elim (either (eqb n v)) [
      | inl t ↦ rw (eqb-true n v t) (same_refl (digits v) ∙ sym (rw (eqb-true n v t) at t))
      | inr t ↦ elim (either (same (digits v) (digits n))) [
        | inl u ↦
            let p : Some v ≡ Some n = sym (number_back (v + n) v (omega arith)) ∙ ap (number_of (v + n)) (same_path (digits v) (digits n) u) ∙ number_back (v + n) n (omega arith) in
            let q : n ≡ v = cc in absurd (eqb-false n v t q)
        | inr u ↦ u ∙ sym t
      ]
    ]

-- `ok`, a tab, a number and a line feed begin a buffer that such an answer stands in where the numbers are the same.
begins_made : (v n : ℕ) (room : List ℕ) → begins (answer_text (made (numbered v))) (answer_text (made (numbered n)) ++ room) ≡ eqb n v
unfolding ok_text fields_text
begins_made v n room =
    rw (append-nil (digits v), append-nil (digits n), append_assoc (digits n) (10 ∷ []) room)
    (begins_line (digits v) (digits n) room (no_feed v) (no_feed n) ∙ same_digits v n)

-- ## Every verb

module _ (b : Bucket) (now : Now) (who : Rights) where
  pub answered_is : (w : Verb) (room : List ℕ) (v : ℕ) → answers_number w (written (answer_text (reply b now who w)) room) v ≡ gives_number v (reply b now who w)
  unfolding reply
  answered_is (Put k body size t) room v = begins_made v b.settings.next _
  answered_is (Copy n k t) room v = begins_made v b.settings.next _
  answered_is (Retain n r y) room v = refl
  answered_is (Hold n on) room v = refl
  answered_is (AddMarker k y) room v = refl
  answered_is (DeleteVersion k u y) room v = sym (removal_answers (then_some (row_of b.rows (name k (Some u))) false is_marker) u v)
  answered_is (Set s) room v = refl
  answered_is Sweep room v = refl
  answered_is (Ask (Get n)) room v = sym (shown_answers (row_of b.rows n) v)
  answered_is (Ask (ListVersions p)) room v = refl
  answered_is (Ask (Report prefix)) room v = refl
  answered_is (Ask (Repeat u)) room v = refl
