-- 01, "Request lines": what an accepted line does to the bucket.
use Rattle.std.specs.Prelude.{ℕ, ◌+◌, Bool, true, false, not, ◌&&◌, List, [], ◌∷◌, eqb, set}
use Rattle.std.specs.Prelude.{Option, Some, None}
use Rattle.buffers.specs.Choices.{pick, then_some, or_zero}
use Rattle.buffers.specs.Lists.{keep, first, change, same}
use Rattle.calendar.specs.declared.Now.{Now}
use Rattle.model.specs.Rows.{Row, before}
use Rattle.model.specs.Settings.{Rule, Default, Config, Settings, Bucket, absent_rule, is_set}
use Rattle.model.specs.Requests.{Version, numbered, Name, Terms, Period, Setting, DefaultRetention, LifecycleRule, name, Verb, Put, Copy, Retain, Hold, AddMarker, DeleteVersion, Set, Sweep, Ask, Request, setting_of}
use Rattle.model.specs.Time.{now_of, new_mode, new_until}
use Rattle.model.specs.Sweep.{marker, marks, removes, swept, counted}

-- ## The row that a line names

abbrev pub has_version : Option Version → Row → Bool
has_version None x = true
has_version (Some (numbered v)) x = eqb v x.number

-- The key's row with that number, or the key's first row.
abbrev pub row_of : List Row → Name → Option Row
row_of xs n = first (λ x. same n.key x.key && has_version n.version x) xs

-- Two rows are of the same key and version number.
abbrev pub same_version : Row → Row → Bool
same_version x y = same x.key y.key && eqb x.number y.number

-- The row y is the one that the name names.
abbrev pub is_named : List Row → Name → Row → Bool
is_named xs n y = then_some (row_of xs n) false (λ x. same_version x y)

-- ## Changes of the table

-- A new row, which has the highest number, stands before the first row whose key is not before its own.
abbrev pub insert_by_key : Row → List Row → List Row
insert_by_key x [] = x ∷ []
insert_by_key x (y ∷ ys) = pick (before y.key x.key) (y ∷ insert_by_key x ys) (x ∷ y ∷ ys)

abbrev pub set_retention : ℕ → ℕ → Row → Row
set_retention m d x =
    record { number = x.number; kind = x.kind; created = x.created; body = x.body; size = x.size; mode = m; until = d; hold = x.hold; key = x.key }

abbrev pub set_hold : ℕ → Row → Row
set_hold h x =
    record { number = x.number; kind = x.kind; created = x.created; body = x.body; size = x.size; mode = x.mode; until = x.until; hold = h; key = x.key }

-- 1 for ON, 0 for OFF; `-` is OFF.
abbrev pub hold_number : Bool → ℕ
hold_number on = pick on 1 0

abbrev pub new_hold : Option Bool → ℕ
new_hold None = 0
new_hold (Some on) = hold_number on

-- The data row that a PUT or COPY adds, created now, with the next number.
abbrev pub new_row : Settings → ℕ → List ℕ → ℕ → ℕ → Terms → Row
new_row s now k body size t =
    record {
      number = s.next;
      kind = 1;
      created = now;
      body = body;
      size = size;
      mode = new_mode s.config t.retention;
      until = new_until s.config now t.retention;
      hold = new_hold t.hold;
      key = k;
    }

-- ## The bucket after the line

-- The rows that a line adds, each with a version number of its own.
unfoldable pub added : Bucket → Now → Verb → ℕ
added b now (Put k body size t) = 1
added b now (Copy n k t) = 1
added b now (Retain n r y) = 0
added b now (Hold n on) = 0
added b now (AddMarker k y) = 1
added b now (DeleteVersion k v y) = 0
added b now (Set s) = 0
added b now Sweep = counted marks b.settings.config.rules now.judge None b.rows
added b now (Ask q) = 0

-- The rows that a line removes.
unfoldable pub removed : Bucket → Now → Verb → ℕ
removed b now (Put k body size t) = 0
removed b now (Copy n k t) = 0
removed b now (Retain n r y) = 0
removed b now (Hold n on) = 0
removed b now (AddMarker k y) = 0
removed b now (DeleteVersion k v y) = 1
removed b now (Set s) = 0
removed b now Sweep = counted removes b.settings.config.rules now.judge None b.rows
removed b now (Ask q) = 0

-- The table. A copy takes body and length from its source.
unfoldable pub rows_after : Bucket → Now → Verb → List Row
rows_after b now (Put k body size t) = insert_by_key (new_row b.settings now.stamp k body size t) b.rows
rows_after b now (Copy n k t) =
    let source = row_of b.rows n in
    insert_by_key (new_row b.settings now.stamp k (then_some source 0 (λ x. x.body)) (then_some source 0 (λ x. x.size)) t) b.rows
rows_after b now (Retain n r y) = change (is_named b.rows n) (set_retention (or_zero r.mode) (or_zero r.date)) b.rows
rows_after b now (Hold n on) = change (is_named b.rows n) (set_hold (hold_number on)) b.rows
rows_after b now (AddMarker k y) = insert_by_key (marker now.stamp b.settings.next k) b.rows
rows_after b now (DeleteVersion k v y) = keep (λ x. not (is_named b.rows (name k (Some v)) x)) b.rows
rows_after b now (Set s) = b.rows
rows_after b now Sweep = swept b.settings.config.rules now b.settings.next None b.rows
rows_after b now (Ask q) = b.rows

abbrev pub default_from : Option ℕ → Option Period → Default
default_from m p = record { mode = or_zero m; count = then_some p 0 (λ q. q.count); unit = then_some p 0 (λ q. q.unit) }

-- What is stored of a rule: one without an action is absent.
abbrev pub stored : Rule → Rule
stored u = pick (is_set u) u absent_rule

-- Both `-` clears the default; both 0 clears the rule.
unfoldable pub set_config : Setting → Config → Config
set_config (DefaultRetention m p) s = record { default = default_from m p; rules = s.rules }
set_config (LifecycleRule i u) s = record { default = s.default; rules = set s.rules i (stored u) }

unfoldable pub config_after : Config → Verb → Config
config_after s v = then_some (setting_of v) s (λ a. set_config a s)

-- Now becomes the bucket's time.
abbrev pub after : Bucket → Request → Bucket
after b q =
    let now = now_of b q.context in
    record {
      settings = record {
        time = now.stamp;
        next = b.settings.next + added b now q.verb;
        config = config_after b.settings.config q.verb;
      };
      rows = rows_after b now q.verb;
    }
