-- The rules compared with a key, one after the other: the limits that they set, and the count.
use Rattle.std.proofs.lemmas.List.{length-map}
use Rattle.std.proofs.lemmas.List.{map-append}
use Rattle.std.proofs.Common.{◌≡◌, ℕ, ◌+◌, ◌<◌, ◌≤◌, true, ◌&&◌, eqb, List, [], ◌∷◌, ◌++◌, length, get_or, take, sym, refl, ap, ◌∙◌, inl, inr, add-one, arith, take-suc, take_all, length-append, length-take-le}
use borrow.Author.Tests.{not-false}
use Rattle.buffers.specs.Choices.{pick}
use Rattle.buffers.specs.Lists.{begins}
use Rattle.buffers.proofs.Tests.{either, and_l, and_r}
use Rattle.model.specs.Settings as model
use Rattle.model.specs.Settings.{is_set}
use Rattle.model.specs.Sweep.{applying}
use Rattle.search.specs.Keys.{rank}
use Rattle.lifecycle.specs.declared.Matched.{Matched}
use Rattle.lifecycle.specs.Least.{lesser, least, limits_of, compared, most_comparisons, KeyMatched}
use Rattle.lifecycle.specs.declared.laid.LaidRule.{LaidRule}
use Rattle.lifecycle.specs.LaidRules.{rule_of, rules_in}
use Rattle.lifecycle.proofs.Days.{limits_last}

-- ## One rule more

lesser_none : (a b : ℕ) → eqb a 0 ≡ true → lesser a b ≡ b
unfolding lesser
lesser_none a b e = rw e

limits_more : (u : model.Rule) (us : List model.Rule) (k : List ℕ)
    → pick (begins u.prefix k) (record { current = lesser u.current_days (limits_of us k).current; noncurrent = lesser u.noncurrent_days (limits_of us k).noncurrent }) (limits_of us k) ≡ limits_of (u ∷ us) k
unfolding limits_of
limits_more u us k =
    elim (either (is_set u)) [
      | inl e ↦ elim (either (begins u.prefix k)) [ inl f ↦ simp (e, f) | inr f ↦ simp (e, f) ]
      | inr e ↦
          let z = not-false (eqb u.current_days 0 && eqb u.noncurrent_days 0) e in
          let c = and_l (eqb u.current_days 0) _ z in
          let n = and_r (eqb u.current_days 0) _ z in
          elim (either (begins u.prefix k)) [
            | inl f ↦ simp (e, f, lesser_none u.current_days (least (λ v. v.current_days) (applying us k)) c, lesser_none u.noncurrent_days (least (λ v. v.noncurrent_days) (applying us k)) n)
            | inr f ↦ simp (e, f)
          ]
    ]

-- ## The rules of a key, one after the other

pub match_start : (k : List ℕ) (c : ℕ) → KeyMatched [] k c (record { limits = record { current = 0; noncurrent = 0 }; comparisons = c })
unfolding limits_of
match_start k c = record { limits_are = refl; counted = omega arith }

module _ (rs : List LaidRule) (k : List ℕ) (c : ℕ) where
  module _ (i : ℕ) (m : Matched) (h : KeyMatched (rules_in (take i rs)) k c m) (below : i < length rs) where
    pub match_room : c + length rs ≤ most_comparisons → m.comparisons < most_comparisons
    match_room l = omega (arith, h.counted, length-map (take i rs) rule_of, length-take-le i rs)

    pub match_step : (r : LaidRule) (f : Matched) → r ≡ get_or rs i r → f ≡ compared (rule_of r) k m → KeyMatched (rules_in (take (i + 1) rs)) k c f
    unfolding compared
    match_step r f e g =
        let one : rules_in (take (i + 1) rs) ≡ rules_in (take i rs) ++ rule_of r ∷ [] = rw (add-one i, take-suc rs i r below, sym e, map-append) in
        rw (one, g)
        (record { limits_are = rw (limits_last (rules_in (take i rs)) (rule_of r) k, h.limits_are) (limits_more (rule_of r) (rules_in (take i rs)) k); counted = omega (arith, h.counted, length-append (rules_in (take i rs)) (rule_of r ∷ [])) })

pub match_end : (rs : List LaidRule) (k l : List ℕ) (c i : ℕ) (m : Matched) → KeyMatched (rules_in (take i rs)) k c m → length rs ≤ i → k ≡ l → KeyMatched (rules_in rs) l c m
match_end rs k l c i m h g e = rw (e, take_all i rs g) at h

pub rank_same : (x : ℕ) (k l : List ℕ) → x ≡ rank 8 l → k ≡ l → x ≡ rank 8 k
rank_same x k l e f = e ∙ ap (rank 8) (sym f)

pub ruleset match_cases = (rank_same, match_start, match_room, match_step, match_end)
