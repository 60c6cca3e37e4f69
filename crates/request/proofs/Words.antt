-- What a readable line asks for, by its word.
use Prim.Native.Nat.{ℕ}
use mathlib.Core.Path.{◌≡◌, refl, sym, ◌∙◌, ap}
use mathlib.Core.Logic.{inl, inr}
use mathlib.Core.Bool.{true}
use mathlib.Core.List.{List}
use Rattle.std.specs.Prelude.{Option, Some, None}
use native.Mathlib.Omega.{arith}
use Rattle.buffers.specs.Lists.{same}
use Rattle.buffers.specs.Texts.{bytes}
use Rattle.buffers.proofs.Lists.{same_path}
use Rattle.text.specs.declared.Place.{Place}
use Rattle.text.specs.Fields.{field_of}
use Rattle.text.specs.Numbers.{number_of}
use Rattle.dates.specs.Reading.{read_date}
use Rattle.model.specs.Rows.{largest_size}
use Rattle.model.specs.Requests as model
use Rattle.model.proofs.Years.{MakesRow}
use Rattle.std.specs.Option.{option_map}
use Rattle.model.specs.declared.Mode.{Mode}
use Rattle.model.specs.Kinds.{mode_number}
use Rattle.fields.specs.declared.Retention.{Retention}
use Rattle.fields.specs.declared.Terms.{Terms}
use Rattle.fields.specs.Fields.{dash, read_key, read_version, read_mode}
use Rattle.fields.specs.Meaning.{terms_means}
use Rattle.request.specs.declared.Name.{Name}
use Rattle.request.specs.declared.Verb.{Verb}
use Rattle.request.specs.declared.Verb.TheVariants.{Act, Ask}
use Rattle.request.specs.declared.Query.TheVariants.{Get}
use Rattle.request.specs.declared.Action.{Action}
use Rattle.request.specs.declared.Action.TheVariants.{Put, Copy, Retain, SetHold, AddMarker, DeleteVersion}
use Rattle.request.specs.declared.Request.{Request}
use Rattle.request.specs.Meaning.{name_means, action_means, verb_means}
use Rattle.request.specs.Grammar.{name_at, retention_at, terms_at, put_of, copy_of, retain_of, set_hold_of, delete_of, default_of, rule_of, sweep_of, get_of, list_of, report_of, query_by_word, other_by_word, verb_by_word, request_in, Said, read_line}
use Rattle.request.proofs.Ranges.{Passes, ways, key_field}

-- What holds of every verb that a word's reader gives, holds of the verb of a readable line with that word.
module _ (s : List ℕ) (P : model.Verb → Type 0) (reader : Option Verb) (word : verb_by_word (field_of s 2) s ≡ reader) (reads : Passes Verb (λ v. P (verb_means s v)) reader) where
  pub line_asks : (q : Said) → read_line s ≡ Some q → P q.verb
  unfolding read_line request_in
  line_asks = line.holds
    where
      by_word : (v : Verb) → verb_by_word (field_of s 2) s ≡ Some v → P (verb_means s v)
      by_word v h = reads.holds v (sym word ∙ h)

      request : Passes Request (λ q. P (verb_means s q.verb)) (request_in s)
      request = search (ways, by_word) depth 16

      request_asks : (q : Request) → request_in s ≡ Some q → P (verb_means s q.verb)
      request_asks = request.holds

      line : Passes Said (λ q. P q.verb) (read_line s)
      line = search (ways, request_asks) depth 16

module _ (s : List ℕ) where
  -- The clock is the date in field 0.
  pub line_clock : (q : Said) → read_line s ≡ Some q → read_date (field_of s 0) ≡ Some q.clock
  unfolding read_line request_in
  line_clock = line.holds
    where
      request : Passes Request (λ q. read_date (field_of s 0) ≡ Some q.clock) (request_in s)
      request = search ways depth 16

      line : Passes Said (λ q. read_date (field_of s 0) ≡ Some q.clock) (read_line s)
      line = search (ways, request.holds) depth 16

  -- `-` in field 6 gives no mode
  mode_missing : (t : Terms) → terms_at s ≡ Some t → field_of s 6 ≡ dash → (terms_means t).retention.mode ≡ None
  unfolding terms_at retention_at read_mode
  mode_missing t e d =
      let q : ◌≡◌ {A = Option (Option Mode)} (Some None) (Some t.retention.mode) = rw d at (terms.holds t e) in
      let m : t.retention.mode ≡ None = cc in
      ap (λ (o : Option Mode). option_map mode_number o) m
    where
      retention : Passes Retention (λ r. read_mode (field_of s 6) ≡ Some r.mode) (retention_at s 6 7)
      retention = search ways depth 16

      terms : Passes Terms (λ t. read_mode (field_of s 6) ≡ Some t.retention.mode) (terms_at s)
      terms = search (ways, retention.holds) depth 16

  -- The verb is a PUT of the key in field 3, and of the numbers in fields 4 and 5.
  pub record AsksPut (v : model.Verb) : Type 0 where
    pub body : ℕ
    pub size : ℕ
    pub terms : model.Terms
    pub verb_is : v ≡ model.Put (field_of s 3) body size terms
    pub body_is : number_of 18446744073709551615 (field_of s 4) ≡ Some body
    pub size_is : number_of largest_size (field_of s 5) ≡ Some size
    pub no_mode : field_of s 6 ≡ dash → terms.retention.mode ≡ None

  -- A readable line with the word PUT asks for one.
  pub asks_put : (q : Said) → field_of s 2 ≡ bytes "PUT" → read_line s ≡ Some q → AsksPut q.verb
  unfolding verb_by_word put_of
  asks_put q e = line_asks s AsksPut (put_of s) (rw e) (search (ways, asks) depth 16) q
    where
      asks : (k : Place) (body size : ℕ) (t : Terms) → read_key s 3 ≡ Some k → number_of 18446744073709551615 (field_of s 4) ≡ Some body → number_of largest_size (field_of s 5) ≡ Some size → terms_at s ≡ Some t
          → AsksPut (verb_means s (Act (Put k body size t)))
      asks k body size t ek eb es et = record { body = body; size = size; terms = terms_means t; verb_is = rw (key_field s 3 k ek); body_is = eb; size_is = es; no_mode = mode_missing t et }

  -- The verb makes a row of this key, and gives no mode where field 6 is `-`.
  pub record AsksRow (key : List ℕ) (v : model.Verb) : Type 0 where
    pub terms : model.Terms
    pub makes : MakesRow key terms v
    pub no_mode : field_of s 6 ≡ dash → terms.retention.mode ≡ None

  -- A PUT of the key in field 3, a COPY of that in field 5.
  pub put_asks_row : (q : Said) → field_of s 2 ≡ bytes "PUT" → read_line s ≡ Some q → AsksRow (field_of s 3) q.verb
  put_asks_row q e r = let a = asks_put q e r in record { terms = a.terms; makes = inl (a.body, (a.size, a.verb_is)); no_mode = a.no_mode }

  pub copy_asks_row : (q : Said) → field_of s 2 ≡ bytes "COPY" → read_line s ≡ Some q → AsksRow (field_of s 5) q.verb
  unfolding verb_by_word copy_of
  copy_asks_row q e = line_asks s (AsksRow (field_of s 5)) (copy_of s) (rw e) (search (ways, row) depth 16) q
    where
      row : (n : Name) (k : Place) (t : Terms) → read_key s 5 ≡ Some k → terms_at s ≡ Some t → AsksRow (field_of s 5) (verb_means s (Act (Copy n k t)))
      row n k t ek et = record { terms = terms_means t; makes = inr (name_means s n, rw (key_field s 5 k ek)); no_mode = mode_missing t et }

  -- `-` names the key's current row
  current_name : field_of s 4 ≡ dash → (n : Name) → name_at s 3 4 ≡ Some n → name_means s n ≡ model.name (field_of s 3) None
  unfolding name_at read_version
  current_name d = names.holds
    where
      name_is : (k : Place) (v : Option ℕ) → read_key s 3 ≡ Some k → read_version (field_of s 4) ≡ Some v → name_means s (record { key = k; version = v }) ≡ model.name (field_of s 3) None
      name_is k v ek ev =
          let q : ◌≡◌ {A = Option (Option ℕ)} (Some None) (Some v) = rw d at ev in
          let c : v ≡ None = cc in
          rw (key_field s 3 k ek, c)

      names : Passes Name (λ n. name_means s n ≡ model.name (field_of s 3) None) (name_at s 3 4)
      names = search (ways, name_is) depth 16

  -- One with GET and `-` as its version asks for the current row of the key in field 3.
  pub asks_current : (q : Said) → field_of s 2 ≡ bytes "GET" → field_of s 4 ≡ dash → read_line s ≡ Some q → q.verb ≡ model.Ask (model.Get (model.name (field_of s 3) None))
  unfolding verb_by_word query_by_word other_by_word get_of
  asks_current q e d = line_asks s (λ v. v ≡ model.Ask (model.Get (model.name (field_of s 3) None))) (get_of s) (rw e) (search (ways, current) depth 16) q
    where
      current : (n : Name) → name_at s 3 4 ≡ Some n → verb_means s (Ask (Get n)) ≡ model.Ask (model.Get (model.name (field_of s 3) None))
      current n h = ap (λ (m : model.Name). model.Ask (model.Get m)) (current_name d n h)

  -- One with the word SWEEP asks for that.
  pub asks_sweep : (q : Said) → field_of s 2 ≡ bytes "SWEEP" → read_line s ≡ Some q → q.verb ≡ model.Sweep
  unfolding verb_by_word other_by_word sweep_of
  asks_sweep q e = line_asks s (λ v. v ≡ model.Sweep) (sweep_of s) (rw e) (search ways depth 16) q

  -- where the verb is SWEEP, that is the word
  abbrev SaysSweep : model.Verb → Type 0
  SaysSweep v = v ≡ model.Sweep → field_of s 2 ≡ bytes "SWEEP"

  -- No action is one,
  action_says : (a : Action) → SaysSweep (action_means s a)
  action_says (Put k body size t) e = let z : ◌≡◌ {A = ℕ} 0 1 = cc in absurd (omega arith)
  action_says (Copy n k t) e = let z : ◌≡◌ {A = ℕ} 0 1 = cc in absurd (omega arith)
  action_says (Retain n r y) e = let z : ◌≡◌ {A = ℕ} 0 1 = cc in absurd (omega arith)
  action_says (SetHold n on) e = let z : ◌≡◌ {A = ℕ} 0 1 = cc in absurd (omega arith)
  action_says (AddMarker k y) e = let z : ◌≡◌ {A = ℕ} 0 1 = cc in absurd (omega arith)
  action_says (DeleteVersion k n y) e = let z : ◌≡◌ {A = ℕ} 0 1 = cc in absurd (omega arith)

  -- no setting,
  setting_says : (a : model.Setting) → SaysSweep (model.Set a)
  setting_says a e = let z : ◌≡◌ {A = ℕ} 0 1 = cc in absurd (omega arith)

  -- and no query.
  query_says : (a : model.Query) → SaysSweep (model.Ask a)
  query_says a e = let z : ◌≡◌ {A = ℕ} 0 1 = cc in absurd (omega arith)

  sweep_says : same (field_of s 2) (bytes "SWEEP") ≡ true → SaysSweep model.Sweep
  sweep_says e _ = same_path (field_of s 2) (bytes "SWEEP") e

  other_says : Passes Verb (λ v. SaysSweep (verb_means s v)) (other_by_word (field_of s 2) s)
  unfolding query_by_word other_by_word default_of rule_of sweep_of get_of list_of report_of
  other_says = search (ways, setting_says, query_says, sweep_says) depth 24

  verb_says : Passes Verb (λ v. SaysSweep (verb_means s v)) (verb_by_word (field_of s 2) s)
  unfolding verb_by_word put_of copy_of retain_of set_hold_of delete_of
  verb_says = search (ways, action_says, other_says) depth 24

  -- A readable line asks for a SWEEP by that word only.
  pub sweep_asked : (q : Said) → read_line s ≡ Some q → q.verb ≡ model.Sweep → field_of s 2 ≡ bytes "SWEEP"
  sweep_asked = line_asks s SaysSweep (verb_by_word (field_of s 2) s) refl verb_says
