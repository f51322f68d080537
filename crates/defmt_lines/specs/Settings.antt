-- What the lines in front of a script's strings set.
use Rattle.std.specs.Prelude.{◌≡◌, ◌≤◌, ◌<◌, ◌⊎◌, ◌&&◌, ◌++◌, ℕ, Bool, true, false, nat_lt, List, [], ◌∷◌, codes, length, Option, Some, None, Result, Ok, Err, if◌then◌else◌}
use Rattle.std.specs.List.{AllByRecursion}
use Rattle.std.specs.Option.{ForSome}
use Rattle.defmt_grammar.specs.Kind.{at_word}
use Rattle.defmt_grammar.specs.declared.language.Language.{Language}
use Rattle.defmt_grammar.specs.declared.language.Language.TheVariants.{Base, Full}
use Rattle.defmt_hooks.specs.Levels.{level_named}
use Rattle.defmt_hooks.specs.declared.level.Level.{Level}
use Rattle.defmt_intern.specs.declared.table.Profile.{Profile}
use Rattle.defmt_intern.specs.declared.table.Profile.TheVariants as profiles
use Rattle.defmt_lines.specs.Number.{IsNumber, number_within}
use Rattle.defmt_lines.specs.declared.cause.Cause.{Cause}
use Rattle.defmt_lines.specs.declared.cause.Cause.TheVariants as causes
use Rattle.defmt_lines.specs.declared.form.Form.{Form}
use Rattle.defmt_lines.specs.declared.form.Form.TheVariants as forms
use Rattle.defmt_lines.specs.declared.settings.RingMode.{RingMode}
use Rattle.defmt_lines.specs.declared.settings.RingMode.TheVariants.{Block, Skip, Trim}
use Rattle.defmt_lines.specs.declared.settings.Settings.{Settings}

-- the greatest base and step of a stamp
abbrev pub stamp_limit : ℕ
stamp_limit = 281474976710656

-- the greatest number of an order, and the most orders
abbrev pub frames_limit : ℕ
frames_limit = 4096

abbrev pub orders_limit : ℕ
orders_limit = 64

-- a script that doesn't name its language has the other one
abbrev pub language_of : List ℕ → Option Language
language_of word = at_word word ((codes "full", Full) ∷ [])

abbrev pub mode_of : List ℕ → Option RingMode
mode_of word =
    at_word word ((codes "block", Block) ∷ (codes "skip", Skip) ∷ (codes "trim", Trim) ∷ [])

-- whether a word says that the reader is late
abbrev pub late_of : List ℕ → Option Bool
late_of word = at_word word ((codes "live", false) ∷ (codes "late", true) ∷ [])

abbrev pub is_block : RingMode → Bool
is_block Block = true
is_block Skip = false
is_block Trim = false

abbrev pub profile_of : List ℕ → Option Profile
profile_of word = at_word word ((codes "1", profiles.One) ∷ (codes "2", profiles.Two) ∷ [])

-- what a script has without these lines
abbrev pub no_settings : Settings
no_settings = record {
  language = Base;
  ring = 1024;
  mode = Block;
  late = false;
  stamp = None;
  profile = profiles.One;
  orders = [];
}

-- ---- what the words of a line make of the settings, or the cause why they set nothing

-- `language WORD`
abbrev pub SetsLanguage : List ℕ → Settings → Result Settings Cause → Type 0
SetsLanguage word s (Ok t) =
    (l : Language) × (language_of word ≡ Some l) × (t ≡ record s { language = l })
SetsLanguage word s (Err cause) = (language_of word ≡ None) × (cause ≡ causes.Line)

-- `ring N`
abbrev pub SetsRing : List ℕ → Settings → Result Settings Cause → Type 0
SetsRing word s (Ok t) = (n : ℕ) × IsNumber 16 65536 word n × (t ≡ record s { ring = n })
SetsRing word s (Err cause) = ((n : ℕ) → IsNumber 16 65536 word n → ⊥) × (cause ≡ causes.Ring)

-- `mode WORD`
abbrev pub SetsMode : List ℕ → Settings → Result Settings Cause → Type 0
SetsMode word s (Ok t) = (m : RingMode) × (mode_of word ≡ Some m) × (t ≡ record s { mode = m })
SetsMode word s (Err cause) = (mode_of word ≡ None) × (cause ≡ causes.Mode)

-- a late reader would wait for itself in blocking mode
abbrev pub IsTooLate : Settings → Bool → Type 0
IsTooLate s late = (late ≡ true) × (is_block s.mode ≡ true)

-- `reader WORD`
abbrev pub SetsReader : List ℕ → Settings → Result Settings Cause → Type 0
SetsReader word s (Ok t) = (late : Bool) × (late_of word ≡ Some late) × (IsTooLate s late → ⊥)
    × (t ≡ record s { late = late })
SetsReader word s (Err cause) =
    ((late_of word ≡ None) × (cause ≡ causes.Mode))
    ⊎ ((late : Bool) × (late_of word ≡ Some late) × IsTooLate s late × (cause ≡ causes.Late))

-- BASE and STEP, each from 0 to the limit
abbrev pub AreStamps : List ℕ → List ℕ → ℕ → ℕ → Type 0
AreStamps base step b d = IsNumber 0 stamp_limit base b × IsNumber 0 stamp_limit step d

-- `stamp BASE STEP`
abbrev pub SetsStamp : List ℕ → List ℕ → Settings → Result Settings Cause → Type 0
SetsStamp base step s (Ok t) =
    (b : ℕ) × (d : ℕ) × AreStamps base step b d × (t ≡ record s { stamp = Some (b, d) })
SetsStamp base step s (Err cause) =
    ((b d : ℕ) → AreStamps base step b d → ⊥) × (cause ≡ causes.Stamp)

-- `profile WORD`
abbrev pub SetsProfile : List ℕ → Settings → Result Settings Cause → Type 0
SetsProfile word s (Ok t) =
    (p : Profile) × (profile_of word ≡ Some p) × (t ≡ record s { profile = p })
SetsProfile word s (Err cause) = (profile_of word ≡ None) × (cause ≡ causes.Profile)

-- a number of frames, from 0 to the limit, and a level
abbrev pub IsOrder : List ℕ → List ℕ → ℕ → Level → Type 0
IsOrder number word n level = IsNumber 0 frames_limit number n × (level_named word ≡ Some level)

-- `d N LEVEL`
abbrev pub SetsOrder : List ℕ → List ℕ → Settings → Result Settings Cause → Type 0
SetsOrder number word s (Ok t) =
    (n : ℕ) × (level : Level) × IsOrder number word n level × (length s.orders < orders_limit)
    × (t ≡ record s { orders = s.orders ++ (n, level) ∷ [] })
SetsOrder number word s (Err cause) =
    (((n : ℕ) (level : Level) → IsOrder number word n level → ⊥) × (cause ≡ causes.Level))
    ⊎ ((n : ℕ) × (level : Level) × IsOrder number word n level × (orders_limit ≤ length s.orders)
    × (cause ≡ causes.Many))

-- A line of a form of settings, with its words. Other forms, and other numbers of words, set nothing.
abbrev pub Sets : Form → List (List ℕ) → Settings → Result Settings Cause → Type 0
Sets forms.Language (word ∷ []) s set = SetsLanguage word s set
Sets forms.Ring (word ∷ []) s set = SetsRing word s set
Sets forms.Mode (word ∷ []) s set = SetsMode word s set
Sets forms.Reader (word ∷ []) s set = SetsReader word s set
Sets forms.Stamp (base ∷ step ∷ []) s set = SetsStamp base step s set
Sets forms.Profile (word ∷ []) s set = SetsProfile word s set
Sets forms.Order (number ∷ word ∷ []) s set = SetsOrder number word s set
Sets form words s set = set ≡ Err causes.Line

-- ---- what holds of settings

pub record AreLawful (s : Settings) : Type 0 where
  pub least : 16 ≤ s.ring
  pub most : s.ring ≤ 65536
  pub not_late : is_block s.mode ≡ true → s.late ≡ false
  pub stamp_within : ForSome s.stamp (λ p. (p.0 ≤ stamp_limit) × (p.1 ≤ stamp_limit))
  pub few_orders : length s.orders ≤ orders_limit
  pub orders_within : AllByRecursion (λ order. order.0 ≤ frames_limit) s.orders

-- ---- reading, as the code does it, on lists

abbrev pub language_or : Settings → Option Language → Result Settings Cause
language_or s (Some l) = Ok (record s { language = l })
language_or s None = Err causes.Line

unfoldable pub with_language : Settings → List ℕ → Result Settings Cause
with_language s word = language_or s (language_of word)

abbrev pub ring_or : Settings → Option ℕ → Result Settings Cause
ring_or s (Some n) = Ok (record s { ring = n })
ring_or s None = Err causes.Ring

unfoldable pub with_ring : Settings → List ℕ → Result Settings Cause
with_ring s word = ring_or s (number_within 16 65536 word)

abbrev pub mode_or : Settings → Option RingMode → Result Settings Cause
mode_or s (Some m) = Ok (record s { mode = m })
mode_or s None = Err causes.Mode

unfoldable pub with_mode : Settings → List ℕ → Result Settings Cause
with_mode s word = mode_or s (mode_of word)

abbrev pub reader_or : Settings → Option Bool → Result Settings Cause
reader_or s (Some late) =
    if late && is_block s.mode then Err causes.Late else Ok (record s { late = late })
reader_or s None = Err causes.Mode

unfoldable pub with_reader : Settings → List ℕ → Result Settings Cause
with_reader s word = reader_or s (late_of word)

abbrev pub stamp_or : Settings → Option ℕ → Option ℕ → Result Settings Cause
stamp_or s (Some base) (Some step) = Ok (record s { stamp = Some (base, step) })
stamp_or s base step = Err causes.Stamp

unfoldable pub with_stamp : Settings → List ℕ → List ℕ → Result Settings Cause
with_stamp s base step =
    stamp_or s (number_within 0 stamp_limit base) (number_within 0 stamp_limit step)

abbrev pub profile_or : Settings → Option Profile → Result Settings Cause
profile_or s (Some p) = Ok (record s { profile = p })
profile_or s None = Err causes.Profile

unfoldable pub with_profile : Settings → List ℕ → Result Settings Cause
with_profile s word = profile_or s (profile_of word)

abbrev pub order_or : Settings → Option ℕ → Option Level → Result Settings Cause
order_or s (Some n) (Some level) =
    if nat_lt (length s.orders) orders_limit
    then Ok (record s { orders = s.orders ++ (n, level) ∷ [] }) else Err causes.Many
order_or s number level = Err causes.Level

unfoldable pub with_order : Settings → List ℕ → List ℕ → Result Settings Cause
with_order s number word = order_or s (number_within 0 frames_limit number) (level_named word)

abbrev pub with_words : Form → List (List ℕ) → Settings → Result Settings Cause
with_words forms.Language (word ∷ []) s = with_language s word
with_words forms.Ring (word ∷ []) s = with_ring s word
with_words forms.Mode (word ∷ []) s = with_mode s word
with_words forms.Reader (word ∷ []) s = with_reader s word
with_words forms.Stamp (base ∷ step ∷ []) s = with_stamp s base step
with_words forms.Profile (word ∷ []) s = with_profile s word
with_words forms.Order (number ∷ word ∷ []) s = with_order s number word
with_words form words s = Err causes.Line
