-- The outcome of a call along its conditions: the first that holds refuses, else what is decided is done.
use Prim.Native.Nat.{ℕ, ◌≤◌, ◌<◌}
use mathlib.Core.Path.{◌≡◌, refl, sym, ◌∙◌}
use mathlib.Core.Logic.{inl, inr}
use mathlib.Core.Bool.{Bool, true, false, not, ◌&&◌}
use mathlib.Core.List.{List, [], ◌∷◌, ◌++◌}
use Rattle.std.specs.Prelude.{Option, Some, None}
use native.Mathlib.Omega.{arith}
use lib.Dec.{eqb, leb}
use lib.ListN.{length}
use borrow.Author.Tests.{eq-eqb, not-true, lt-ltb, le-ltb}
use Rattle.buffers.specs.Choices.{pick, then_some}
use Rattle.buffers.specs.Lists.{all}
use Rattle.buffers.proofs.Tests.{either, clash, and_l, and_r}
use Rattle.calendar.specs.Calendar.{latest}
use Rattle.model.specs.Requests.{Verb, Request, unreadable, says, room_of, in_range}
use Rattle.model.specs.Time.{now_of}
use Rattle.model.specs.Retries.{meant}
use Rattle.model.specs.Refusals.{Check, first_of, verb_checks}
use Rattle.table.specs.Layout.{capacity}
use Rattle.bucket.specs.Whole.{Lent, bucket_of, whole}
use Rattle.request.specs.Grammar.{Said, read_line, asked}
use Rattle.outcome.specs.Calls.{Sent, line, Call, heard_of, heard}
use Rattle.outcome.specs.Decision.{Effect, refuses, does, decide, effect, decision}
use Rattle.outcome.specs.Outcome.{refused, refusal_of, outcome}
use Rattle.outcome.specs.Steps.{carried, done}

-- every number of the conditions is one of a refusal
abbrev pub numbered : List Check → Bool
numbered xs = all (λ x. not (eqb x.number 0)) xs

-- ## Conditions in two parts

pub decide_stop : (xs ys : List Check) (e : Effect) → (first_of xs ≡ 0 → ⊥) → decide (xs ++ ys) e ≡ refuses (first_of xs)
decide_stop [] ys e z = absurd (z refl)
decide_stop (x ∷ xs) ys e z =
    elim (either x.holds) [
      | inl t ↦ simp t
      | inr t ↦ simp t (decide_stop xs ys e (rw t at z))
    ]

pub decide_go : (xs ys : List Check) (e : Effect) → numbered xs ≡ true → first_of xs ≡ 0 → decide (xs ++ ys) e ≡ decide ys e
decide_go [] ys e h z = refl
decide_go (x ∷ xs) ys e h z =
    elim (either x.holds) [
      | inl t ↦ absurd (clash (eqb x.number 0) (eq-eqb x.number 0 (rw t at z)) (not-true (eqb x.number 0) (and_l (not (eqb x.number 0)) _ h)))
      | inr t ↦ simp t (decide_go xs ys e (and_r (not (eqb x.number 0)) _ h) (rw t at z))
    ]

-- Where something is done, none holds.
pub decide_done : (xs : List Check) (e f : Effect) → does f ≡ decide xs e → f ≡ e
decide_done [] e f h = cc
decide_done (x ∷ xs) e f h =
    elim (either x.holds) [
      | inl t ↦ let g : does f ≡ refuses x.number = h ∙ simp t in let z : ◌≡◌ {A = ℕ} 0 1 = cc in absurd (omega arith)
      | inr t ↦ decide_done xs e f (h ∙ simp t)
    ]

-- ## The outcome

-- What is heard tells the answer buffer's length.
heard_room : (g : Call) → room_of (heard g) ≡ length g.answer
heard_room g = go g.sent
  where
    known : (room : ℕ) (o : Option Said) → room_of (then_some o (unreadable room) (λ q. says (asked room q))) ≡ room
    known room None = refl
    known room (Some q) = refl

    go : (x : Sent) → room_of (heard_of (length g.answer) x) ≡ length g.answer
    go (line s) = known (length g.answer) (read_line s)

module _ (b : Lent) (g : Call) where
  -- What is done is refused with the first condition that holds, or carried out.
  done_decide : (now : ℕ) (v : Verb) (xs : List Check) (e : Effect) → numbered xs ≡ true
      → pick (eqb (first_of xs) 0) (carried b now v g.answer e) (refused (first_of xs) b g.answer) ≡ done b now v g.answer (decide xs e)
  done_decide now v [] e h = refl
  done_decide now v (x ∷ xs) e h =
      elim (either x.holds) [
        | inl t ↦ simp (t, not-true (eqb x.number 0) (and_l (not (eqb x.number 0)) _ h))
        | inr t ↦ simp t (done_decide now v xs e (and_r (not (eqb x.number 0)) _ h))
      ]

  pub outcome_1 : whole b ≡ false → refused 1 b g.answer ≡ outcome b g
  unfolding outcome refusal_of
  outcome_1 w = simp w

  pub outcome_2 : whole b ≡ true → length g.answer < 256 → refused 2 b g.answer ≡ outcome b g
  unfolding outcome refusal_of
  outcome_2 w l = simp (w, heard_room g, lt-ltb _ _ l)

  pub outcome_3 : (room : ℕ) → whole b ≡ true → 256 ≤ room → heard g ≡ unreadable room → refused 3 b g.answer ≡ outcome b g
  unfolding outcome refusal_of
  outcome_3 room w l e = simp (w, e, le-ltb _ _ l)

  -- A request that the reader keeps within its ranges is done as it is decided, by what it means.
  pub outcome_said : (q : Request) → whole b ≡ true → 256 ≤ q.context.room → heard g ≡ says q → (leb q.context.clock latest && in_range q.verb) ≡ true
      → done b (now_of (bucket_of b) q.context).stamp (meant (bucket_of b).rows q.verb) g.answer (decision (capacity b.keys) (bucket_of b) q) ≡ outcome b g
  unfolding outcome refusal_of
  outcome_said q w l e r =
      let x = bucket_of b in
      let now = now_of x q.context in
      let who = q.context.who in
      let v = meant x.rows q.verb in
      simp (w, e, le-ltb _ _ l, r)
      (sym (done_decide now.stamp v (verb_checks (capacity b.keys) x now q.context q.verb) (effect x now who v) refl))
