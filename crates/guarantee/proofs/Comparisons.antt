-- An accepted SWEEP compares each rule that is set with each different key once; any other call counts none.
use Prim.Native.Nat.{ℕ}
use mathlib.Core.Path.{◌≡◌, refl, sym, ◌∙◌, ap}
use mathlib.Core.Logic.{inl, inr}
use mathlib.Core.Bool.{true, false}
use lib.Dec.{eqb}
use borrow.Author.Tests.{eqb-true, ne_eqb}
use Rattle.buffers.specs.Lists.{same}
use Rattle.buffers.specs.Texts.{bytes}
use Rattle.buffers.proofs.Tests.{either, clash, and_l, and_r, and_i}
use Rattle.buffers.proofs.Lists.{same_refl}
use Rattle.model.specs.Settings.{Bucket}
use Rattle.model.specs.Requests.{Verb, Put, Copy, Retain, Hold, AddMarker, DeleteVersion, Set, Sweep, Ask}
use Rattle.model.specs.Comparisons.{comparisons, comparisons_by}
use Rattle.model.proofs.Comparisons.{different_many}
use Rattle.bucket.specs.Whole.{Lent, bucket_of}
use Rattle.request.proofs.Words.{asks_sweep, sweep_asked}
use Rattle.outcome.specs.Calls.{Call}
use Rattle.outcome.specs.Outcome.{outcome}
use Rattle.outcome.specs.Comparisons.{comparisons_of}
use Rattle.knitpasture.specs.Bytes.{Bytes, lent_of, hub_served, hub_counted}
use Rattle.knitpasture.proofs.Left.{counts_as}
use Rattle.guarantee.specs.Exchanges.{exchange, sent_field, is_sweep}
use Rattle.guarantee.specs.Comparisons.{EachOnce, CountsOnce, CountsOnceBytes}
use Rattle.guarantee.proofs.Said.{Read, accepted_read, read_field, read_same}
use Rattle.guarantee.proofs.Bytes.{sized_fits, accepted_sized, same_exchange, served_spelled}

-- Every verb but SWEEP counts none.
others_none : (b : Bucket) (v : Verb) → (v ≡ Sweep → ⊥) → comparisons_by b v ≡ 0
unfolding comparisons_by
others_none b (Put k body size t) n = refl
others_none b (Copy m k t) n = refl
others_none b (Retain m r y) n = refl
others_none b (Hold m on) n = refl
others_none b (AddMarker k y) n = refl
others_none b (DeleteVersion k v y) n = refl
others_none b (Set s) n = refl
others_none b Sweep n = absurd (n refl)
others_none b (Ask q) n = refl

module _ (b : Lent) (g : Call) where
  -- The count of an accepted call is that of the verb that was read.
  read_count : (outcome b g).number ≡ 0 → (r : Read g) → comparisons_of b g ≡ comparisons_by (bucket_of b) r.said.verb
  unfolding comparisons_of
  read_count z r = rw (z, r.hears)

  -- An accepted SWEEP counts each rule that is set with each different key.
  sweep_once : is_sweep (exchange b g) ≡ true → EachOnce (bucket_of b) (comparisons_of b g)
  unfolding comparisons_by comparisons
  sweep_once e keys d =
      let z = eqb-true _ 0 (and_l _ _ e) in
      let r = accepted_read b g z in
      let v : r.said.verb ≡ Sweep = asks_sweep r.bytes r.said (read_same r 2 (bytes "SWEEP") (and_r (eqb (outcome b g).number 0) _ e)) r.reads in
      read_count z r ∙ rw (v, different_many _ keys d)

  -- A refused call counts none, and an accepted one with another word says another verb.
  other_none : is_sweep (exchange b g) ≡ false → comparisons_of b g ≡ 0
  unfolding comparisons_of
  other_none e =
      elim (either (eqb (outcome b g).number 0)) [
        | inl t ↦
            let z = eqb-true _ 0 t in
            let r = accepted_read b g z in
            let word : r.said.verb ≡ Sweep → same (sent_field g.sent 2) (bytes "SWEEP") ≡ true = λ v. rw (read_field r 2, sweep_asked r.bytes r.said r.reads v) (same_refl (bytes "SWEEP")) in
            read_count z r ∙ others_none (bucket_of b) r.said.verb (λ v. clash (is_sweep (exchange b g)) (and_i _ _ t (word v)) e)
        | inr t ↦ rw t
      ]

pub counts_once : CountsOnce
counts_once b g = record { sweep = sweep_once b g; other = other_none b g }

-- An accepted call leaves the count of the call on what the bytes spell.
spelled_count : (b : Bytes) (g : Call) (before : ℕ) → (hub_served b g).number ≡ 0 → hub_counted b g before ≡ comparisons_of (lent_of b) g
unfolding hub_counted
spelled_count b g before z = rw z (counts_as b g (sized_fits _ b (accepted_sized b g z)))

pub counts_once_bytes : CountsOnceBytes
unfolding hub_counted
counts_once_bytes b g before =
    let core = counts_once (lent_of b) g in
    record {
      sweep = λ e keys d. spelled_count b g before (eqb-true _ 0 (and_l _ _ e)) ∙ core.sweep (served_spelled b g (bytes "SWEEP") e) keys d;
      other = λ z e. spelled_count b g before z ∙ core.other (sym (ap is_sweep (same_exchange _ b g (accepted_sized b g z))) ∙ e);
      refused = λ z. rw (ne_eqb _ 0 z);
    }
