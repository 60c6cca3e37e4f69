-- What a retry meets, and a PUT sent again: it is a retry of its key's current row, and the same line is accepted.
use Prim.Native.Nat.{ℕ, ◌+◌, max}
use mathlib.Core.Path.{◌≡◌, refl, ◌∙◌, ap}
use mathlib.Core.Logic.{◌⊎◌, inl, inr}
use mathlib.Core.Bool.{true, false, not}
use mathlib.Core.List.{List, [], ◌∷◌}
use Rattle.std.specs.Prelude.{Option, Some, None}
use native.Mathlib.Omega.{arith}
use lib.Dec.{eqb, ltb}
use borrow.Author.Tests.{eqb-true, eq-eqb, le-ltb}
use Rattle.buffers.specs.Choices.{pick, then_some}
use Rattle.buffers.proofs.Tests.{either, and_l, and_r}
use Rattle.buffers.proofs.Lists.{same_refl, same_sym}
use Rattle.calendar.specs.declared.Now.{Now}
use Rattle.model.specs.Rows.{Row, is_data, before}
use Rattle.model.specs.Settings.{Bucket, spent_number, fits, sound}
use Rattle.model.specs.Requests.{Version, numbered, name, Terms, Repeat, Verb, Put, Ask, Context, says}
use Rattle.model.specs.Time.{now_of}
use Rattle.model.specs.Effects.{row_of, insert_by_key, new_row, added, rows_after, config_after}
use Rattle.model.specs.Retries.{repeats, retry_of, IsRetry, meaning}
use Rattle.model.specs.Refusals.{least_room, short_for_page, missing, names_marker, barred, too_late, spends, full, refusal}
use Rattle.model.specs.Answers.{made, repeated, reply, answer_to}
use Rattle.model.specs.Run.{accept}
use Rattle.model.proofs.Order.{before_other}
use Rattle.model.proofs.Accepted.{FieldsPass, Accepted, retry_fields, written_line, accepts}
use Rattle.model.proofs.Sound.{whole, sound_after}
use Rattle.model.proofs.Invariant.{asked}

-- ## The row that a PUT is a retry of

module _ (xs : List Row) (k : List ℕ) (body size : ℕ) where
  pub retry_of_lem : (x : Row) → IsRetry xs k body size x → retry_of xs k body size ≡ Some x
  retry_of_lem x r = simp (r.is_current, eq-eqb x.kind 1 r.kind_is_data, eq-eqb x.body body r.same_body, eq-eqb x.size size r.same_size)

  is_retry : (x : Row) → row_of xs (name k None) ≡ Some x → repeats body size x ≡ true → IsRetry xs k body size x
  is_retry x e r =
      let sizes = and_r (is_data x) _ r in
      record { is_current = e; kind_is_data = eqb-true x.kind 1 (and_l _ _ r); same_body = eqb-true x.body body (and_l _ _ sizes); same_size = eqb-true x.size size (and_r (eqb x.body body) _ sizes) }

  -- There is such a row, or none.
  retry_or_none : (retry_of xs k body size ≡ None) ⊎ ((x : Row) × IsRetry xs k body size x)
  retry_or_none = go (row_of xs (name k None)) refl
    where
      go : (o : Option Row) → row_of xs (name k None) ≡ o → (then_some o None (λ x. pick (repeats body size x) (Some x) None) ≡ None) ⊎ ((x : Row) × IsRetry xs k body size x)
      go None e = inl refl
      go (Some x) e =
          elim (either (repeats body size x)) [
            | inl r ↦ inr (x, is_retry x e r)
            | inr r ↦ inl (rw r)
          ]

  pub no_retry : ((x : Row) → IsRetry xs k body size x → ⊥) → retry_of xs k body size ≡ None
  no_retry f = elim retry_or_none [ inl e ↦ e | inr r ↦ absurd (f r.0 r.1) ]

-- ## What a retry meets

-- Neither 11 nor 12, in a full table and with the numbers spent too.
pub retry_unspent : (c : ℕ) (b : Bucket) (now : Now) (n : Version) → sound c b ≡ true → spends b now (Ask (Repeat n)) ≡ false
unfolding added spends
retry_unspent c b now n s = le-ltb spent_number (b.settings.next + 0) (omega (arith, (whole c b s).next_fits))

pub retry_fits : (c : ℕ) (b : Bucket) (now : Now) (n : Version) → sound c b ≡ true → full c b now (Ask (Repeat n)) ≡ false
unfolding rows_after full sound
retry_fits c b now n s = ap not (and_l (fits c b.settings.config b.rows) _ s)

-- No condition on the table.
retry_accepted : (c : ℕ) (b : Bucket) (g : Context) (now : Now) (v : Verb) (n : Version) → FieldsPass c b g now v → Accepted c b g now (Ask (Repeat n))
unfolding missing names_marker barred too_late
retry_accepted c b g now v n p =
    record {
      fields = retry_fields c b g now v n p;
      present = refl;
      no_marker = refl;
      free = refl;
      in_time = refl;
      unspent = retry_unspent c b now n p.whole;
      fitting = retry_fits c b now n p.whole;
    }

-- ## A PUT sent again

-- A new row is its key's current one.
pub current_new : (x : Row) (xs : List Row) → row_of (insert_by_key x xs) (name x.key None) ≡ Some x
current_new x [] = simp (same_refl x.key)
current_new x (y ∷ ys) =
    elim (either (before y.key x.key)) [
      | inl e ↦ simp (e, same_sym x.key y.key ∙ before_other y.key x.key e) (current_new x ys)
      | inr e ↦ simp (e, same_refl x.key)
    ]

-- The same context with an answer buffer of another length.
abbrev pub with_room : ℕ → Context → Context
with_room room g = record { room = room; clock = g.clock; who = g.who }

module _ (b : Bucket) (g : Context) (k : List ℕ) (body size : ℕ) (t : Terms) where
  abbrev put : Verb
  put = Put k body size t

  -- What the PUT leaves, accepted.
  abbrev left : Bucket
  left = accept b (says (asked g put))

  -- What the PUT leaves has a row that a PUT of the same is a retry of, and the PUT answered its number.
  pub record LeftRow : Type 0 where
    pub row : Row
    pub retry : IsRetry left.rows k body size row
    pub answered : (answer_to b (meaning b (asked g put)) ≡ made (numbered row.number)) ⊎ (answer_to b (meaning b (asked g put)) ≡ repeated (numbered row.number))
    pub config_is : left.settings.config ≡ b.settings.config

  pub left_row : LeftRow
  unfolding rows_after config_after reply
  left_row =
      elim (retry_or_none b.rows k body size) [
        | inl e ↦
            let x = new_row b.settings (now_of b g).stamp k body size t in
            record { row = x; retry = record { is_current = rw e (current_new x b.rows); kind_is_data = refl; same_body = refl; same_size = refl }; answered = inl (rw e); config_is = rw e }
        | inr (x, r) ↦
            let e = retry_of_lem b.rows k body size x r in
            record { row = x; retry = record { is_current = rw e r.is_current; kind_is_data = r.kind_is_data; same_body = r.same_body; same_size = r.same_size }; answered = inr (rw e); config_is = rw e }
      ]

  -- The same line is accepted again.
  pub again_accepted : (c room : ℕ) → refusal c b (says (asked g put)) ≡ 0 → ltb room least_room ≡ false → refusal c left (says (asked (with_room room g) put)) ≡ 0
  unfolding short_for_page
  again_accepted c room e l =
      let p = written_line c b (asked g put) e in
      let a = left_row in
      let m : max (max b.settings.time g.clock) g.clock ≡ max b.settings.time g.clock = omega arith in
      let u : FieldsPass c left (with_room room g) (now_of left g) put = record {
        whole = sound_after c b (asked g put) e;
        roomy = l;
        instant = p.instant;
        is_in_range = p.is_in_range;
        not_half = p.not_half;
        permitted = rw a.config_is p.permitted;
        page_fits = refl;
        future = rw m p.future;
      } in
      accepts c left (asked (with_room room g) put) (record { written = u; meaning = rw (retry_of_lem left.rows k body size a.row a.retry) (retry_accepted c left (with_room room g) _ put (numbered a.row.number) u) })
