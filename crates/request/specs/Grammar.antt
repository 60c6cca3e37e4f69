-- 01, "Request lines": what a line's bytes say. Fields are counted from 0: clock, rights, verb, then the verb's fields.
use Rattle.std.specs.Prelude.{ℕ, Bool, true, List, length, nat_lt, ◌==◌, if◌then◌else◌}
use Rattle.std.specs.Prelude.{Option, Some, None}
use Rattle.buffers.specs.Choices.{◌>>=◌}
use Rattle.buffers.specs.Lists.{same}
use Rattle.buffers.specs.Texts.{bytes}
use Rattle.text.specs.declared.Place.{Place}
use Rattle.text.specs.Numbers.{number_of, positive_of}
use Rattle.text.specs.Fields.{field_of, tabs_in}
use Rattle.dates.specs.Reading.{read_date}
use Rattle.model.specs.Rows.{largest_size}
use Rattle.model.specs.Settings.{largest_number}
use Rattle.model.specs.Requests.{largest_count}
use Rattle.model.specs.Requests as model
use Rattle.fields.specs.declared.Retention.{Retention}
use Rattle.fields.specs.declared.Terms.{Terms}
use Rattle.fields.specs.Meaning.{rights_means}
use Rattle.fields.specs.Fields.{read_rights, read_key, read_prefix, read_version, read_mode, read_until, read_switch, read_hold, read_bypass, read_period}
use Rattle.request.specs.declared.Name.{Name}
use Rattle.request.specs.declared.Action.{Action}
use Rattle.request.specs.declared.Action.TheVariants.{Put, Copy, Retain, SetHold, AddMarker, DeleteVersion}
use Rattle.request.specs.declared.Setting.TheVariants.{Default, Rule}
use Rattle.request.specs.declared.Query.TheVariants.{Get, ListVersions, Report}
use Rattle.request.specs.declared.Verb.{Verb}
use Rattle.request.specs.declared.Verb.TheVariants.{Act, Set, Sweep, Ask}
use Rattle.request.specs.declared.Request.{Request}
use Rattle.request.specs.Meaning.{verb_means}

-- ## Fields that several verbs have

-- key and version
unfoldable pub name_at : List ℕ → ℕ → ℕ → Option Name
name_at s i j = do
  k ← read_key s i
  v ← read_version (field_of s j)
  Some (record { key = k; version = v })

-- mode and date
unfoldable pub retention_at : List ℕ → ℕ → ℕ → Option Retention
retention_at s i j = do
  m ← read_mode (field_of s i)
  d ← read_until (field_of s j)
  Some (record { mode = m; until = d })

-- mode, date and hold: fields 6 to 8 of a PUT or COPY
unfoldable pub terms_at : List ℕ → Option Terms
terms_at s = do
  r ← retention_at s 6 7
  h ← read_hold (field_of s 8)
  Some (record { retention = r; hold = h })

-- ## The verbs

-- PUT key, body, length, mode, date or `-`, hold
unfoldable pub put_of : List ℕ → Option Verb
put_of s =
    if tabs_in s == 8 then (do
      k ← read_key s 3
      body ← number_of 18446744073709551615 (field_of s 4)
      size ← number_of largest_size (field_of s 5)
      t ← terms_at s
      Some (Act (Put k body size t)))
    else None

-- COPY source key, version, target key, mode, date or `-`, hold
unfoldable pub copy_of : List ℕ → Option Verb
copy_of s =
    if tabs_in s == 8 then (do
      n ← name_at s 3 4
      k ← read_key s 5
      t ← terms_at s
      Some (Act (Copy n k t)))
    else None

-- RETAIN key, version, mode, date or `-`, bypass
unfoldable pub retain_of : List ℕ → Option Verb
retain_of s =
    if tabs_in s == 7 then (do
      n ← name_at s 3 4
      r ← retention_at s 5 6
      y ← read_bypass (field_of s 7)
      Some (Act (Retain n r y)))
    else None

-- HOLD key, version, ON or OFF
unfoldable pub set_hold_of : List ℕ → Option Verb
set_hold_of s =
    if tabs_in s == 5 then (do
      n ← name_at s 3 4
      on ← read_switch (field_of s 5)
      Some (Act (SetHold n on)))
    else None

-- with `-` a DELETE adds a marker
abbrev pub deletes : Place → Option ℕ → Bool → Action
deletes k None y = AddMarker k y
deletes k (Some n) y = DeleteVersion k n y

-- DELETE key, version, bypass
unfoldable pub delete_of : List ℕ → Option Verb
delete_of s =
    if tabs_in s == 5 then (do
      k ← read_key s 3
      v ← read_version (field_of s 4)
      y ← read_bypass (field_of s 5)
      Some (Act (deletes k v y)))
    else None

-- DEFAULT mode, period
unfoldable pub default_of : List ℕ → Option Verb
default_of s =
    if tabs_in s == 4 then (do
      m ← read_mode (field_of s 3)
      p ← read_period (field_of s 4)
      Some (Set (Default m p)))
    else None

-- RULE number 0 to 7, prefix, current days, noncurrent days
unfoldable pub rule_of : List ℕ → Option Verb
rule_of s =
    if tabs_in s == 6 then (do
      i ← number_of 7 (field_of s 3)
      p ← read_prefix s 4
      current ← number_of 36500 (field_of s 5)
      noncurrent ← number_of 36500 (field_of s 6)
      Some (Set (Rule i p current noncurrent)))
    else None

-- SWEEP
unfoldable pub sweep_of : List ℕ → Option Verb
sweep_of s = if tabs_in s == 2 then Some Sweep else None

-- GET key, version
unfoldable pub get_of : List ℕ → Option Verb
get_of s =
    if tabs_in s == 4 then (do
      n ← name_at s 3 4
      Some (Ask (Get n)))
    else None

-- the key and the version name a place: the empty key has version 0 only
unfoldable pub names_place : Place → ℕ → Bool
names_place k v = if k.len == 0 then v == 0 else true

-- LIST prefix, key or nothing, version or 0, count 1 to 1000
unfoldable pub list_of : List ℕ → Option Verb
list_of s =
    if tabs_in s == 6 then (do
      p ← read_prefix s 3
      k ← read_prefix s 4
      v ← number_of largest_number (field_of s 5)
      n ← positive_of largest_count (field_of s 6)
      if names_place k v then Some (Ask (ListVersions (record { prefix = p; key = k; version = v; count = n }))) else None)
    else None

-- REPORT prefix
unfoldable pub report_of : List ℕ → Option Verb
report_of s =
    if tabs_in s == 3 then (do
      p ← read_prefix s 3
      Some (Ask (Report p)))
    else None

-- GET, LIST and REPORT by their word
unfoldable pub query_by_word : List ℕ → List ℕ → Option Verb
query_by_word w s =
    if same w (bytes "GET") then get_of s
    else (if same w (bytes "LIST") then list_of s
    else (if same w (bytes "REPORT") then report_of s
    else None))

-- DEFAULT, RULE, SWEEP and the verbs that ask by their word
unfoldable pub other_by_word : List ℕ → List ℕ → Option Verb
other_by_word w s =
    if same w (bytes "DEFAULT") then default_of s
    else (if same w (bytes "RULE") then rule_of s
    else (if same w (bytes "SWEEP") then sweep_of s
    else query_by_word w s))

-- the verb by its word
unfoldable pub verb_by_word : List ℕ → List ℕ → Option Verb
verb_by_word w s =
    if same w (bytes "PUT") then put_of s
    else (if same w (bytes "COPY") then copy_of s
    else (if same w (bytes "RETAIN") then retain_of s
    else (if same w (bytes "HOLD") then set_hold_of s
    else (if same w (bytes "DELETE") then delete_of s
    else other_by_word w s))))

-- ## The line

-- At most 512 bytes: clock, rights, verb, then the verb's fields.
unfoldable pub request_in : List ℕ → Option Request
request_in s =
    if nat_lt 512 (length s) then None
    else (do
      clock ← read_date (field_of s 0)
      rights ← read_rights (field_of s 1)
      v ← verb_by_word (field_of s 2) s
      Some (record { clock = clock; rights = rights; verb = v }))

-- What a readable line says.
pub record Said : Type 0 where
  pub clock : ℕ
  pub who : model.Rights
  pub verb : model.Verb

-- what a request stands for in the model
abbrev pub said_by : List ℕ → Request → Said
said_by s q = record { clock = q.clock; who = rights_means q.rights; verb = verb_means s q.verb }

unfoldable pub read_line : List ℕ → Option Said
read_line s = do
  q ← request_in s
  Some (said_by s q)

-- The request that a readable line asks, with an answer buffer of this length.
abbrev pub asked : ℕ → Said → model.Request
asked room q = record { context = record { room = room; clock = q.clock; who = q.who }; verb = q.verb }
