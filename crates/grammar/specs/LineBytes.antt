-- Document 01, 'Lines': "fields parted by one tab, closed by a newline, at most 80 bytes without it". The examples type a blank for `tab` and
-- close a line by `newline`, so that they cannot say which bytes these are; and they quote words, which `bytes` spells for both sides.
use Rattle.std.specs.Prelude.{◌≡◌, List, [], ◌∷◌, ◌++◌, map, ℕ, get_or, None, Some}
use Prim.Native.String.{String}
use Rattle.requests.specs.declared.CounterSet.{CounterSet}
use Rattle.requests.specs.declared.Setup.{Setup}
use Rattle.requests.specs.declared.Request.TheVariants.{Event, Packet, Offcore, Latency}
use Rattle.grammar.specs.Text.{bytes, hex_digit, decimal_text, hex_text, line_of}
use Rattle.grammar.specs.Fields.{fields}
use Rattle.grammar.specs.Numbers.{digit_of, core_number_of}
use Rattle.grammar.specs.Parse.{longest}
use Rattle.grammar.specs.Records.{core_text, record_fields, record_text}
use Rattle.grammar.specs.declared.Record.{Record}
use Rattle.grammar.specs.declared.Record.TheVariants.{Open, Add, Drop, Turn}

-- every word of a line, of one that is read or of one that is answered, with its bytes in ASCII
unfoldable pub word_bytes : List (String × List ℕ)
word_bytes =
    ("open", 111 ∷ 112 ∷ 101 ∷ 110 ∷ [])
    ∷ ("event", 101 ∷ 118 ∷ 101 ∷ 110 ∷ 116 ∷ [])
    ∷ ("packet", 112 ∷ 97 ∷ 99 ∷ 107 ∷ 101 ∷ 116 ∷ [])
    ∷ ("offcore", 111 ∷ 102 ∷ 102 ∷ 99 ∷ 111 ∷ 114 ∷ 101 ∷ [])
    ∷ ("latency", 108 ∷ 97 ∷ 116 ∷ 101 ∷ 110 ∷ 99 ∷ 121 ∷ [])
    ∷ ("drop", 100 ∷ 114 ∷ 111 ∷ 112 ∷ [])
    ∷ ("turn", 116 ∷ 117 ∷ 114 ∷ 110 ∷ [])
    ∷ ("named", 110 ∷ 97 ∷ 109 ∷ 101 ∷ 100 ∷ [])
    ∷ ("ok", 111 ∷ 107 ∷ [])
    ∷ ("no", 110 ∷ 111 ∷ [])
    ∷ ("take", 116 ∷ 97 ∷ 107 ∷ 101 ∷ [])
    ∷ ("set", 115 ∷ 101 ∷ 116 ∷ [])
    ∷ ("-", 45 ∷ [])
    ∷ ("1", 49 ∷ [])
    -- and every byte that a word or a name may have
    ∷ ("abcdefghijklmnopqrstuvwxyz", 97 ∷ 98 ∷ 99 ∷ 100 ∷ 101 ∷ 102 ∷ 103 ∷ 104 ∷ 105 ∷ 106 ∷ 107 ∷ 108 ∷ 109 ∷ 110 ∷ 111 ∷ 112 ∷ 113 ∷ 114 ∷ 115 ∷ 116 ∷ 117 ∷ 118 ∷ 119 ∷ 120 ∷ 121 ∷ 122 ∷ [])
    ∷ ("ABCDEFGHIJKLMNOPQRSTUVWXYZ", 65 ∷ 66 ∷ 67 ∷ 68 ∷ 69 ∷ 70 ∷ 71 ∷ 72 ∷ 73 ∷ 74 ∷ 75 ∷ 76 ∷ 77 ∷ 78 ∷ 79 ∷ 80 ∷ 81 ∷ 82 ∷ 83 ∷ 84 ∷ 85 ∷ 86 ∷ 87 ∷ 88 ∷ 89 ∷ 90 ∷ [])
    ∷ ("0123456789_", 48 ∷ 49 ∷ 50 ∷ 51 ∷ 52 ∷ 53 ∷ 54 ∷ 55 ∷ 56 ∷ 57 ∷ 95 ∷ [])
    ∷ []

-- the digits 0 to 9 and A to F
unfoldable pub digit_bytes : List ℕ
digit_bytes = 48 ∷ 49 ∷ 50 ∷ 51 ∷ 52 ∷ 53 ∷ 54 ∷ 55 ∷ 56 ∷ 57 ∷ 65 ∷ 66 ∷ 67 ∷ 68 ∷ 69 ∷ 70 ∷ []

-- the first field of a record's line
abbrev pub verb_of : Record → List ℕ
verb_of r = get_or (record_fields r) 0 []

pub record LineBytes : Type 0 where
  pub closed : (f : List ℕ) → line_of (f ∷ []) ≡ f ++ 10 ∷ []
  pub parted : (f g : List ℕ) (more : List (List ℕ)) → line_of (f ∷ g ∷ more) ≡ f ++ 9 ∷ line_of (g ∷ more)
  -- read back: a tab begins a field
  pub begins : (text : List ℕ) → fields (9 ∷ text) ≡ [] ∷ fields text
  pub eighty : longest ≡ 80
  -- "`open`", "`event`" and so on, and "`ok`", "`no`", "`take`", "`set`", "`-`"
  pub spelt : map (λ (w : String × List ℕ). bytes w.0) word_bytes ≡ map (λ (w : String × List ℕ). w.1) word_bytes
  -- the verb of each record
  pub opens : (s : Setup) → verb_of (Open s) ≡ 111 ∷ 112 ∷ 101 ∷ 110 ∷ []
  pub event : (id c m : ℕ) (a : CounterSet) → verb_of (Add id (Event c m a)) ≡ 101 ∷ 118 ∷ 101 ∷ 110 ∷ 116 ∷ []
  pub packet : (id x y : ℕ) (a : CounterSet) → verb_of (Add id (Packet x y a)) ≡ 112 ∷ 97 ∷ 99 ∷ 107 ∷ 101 ∷ 116 ∷ []
  pub offcore : (id w : ℕ) (a : CounterSet) → verb_of (Add id (Offcore w a)) ≡ 111 ∷ 102 ∷ 102 ∷ 99 ∷ 111 ∷ 114 ∷ 101 ∷ []
  pub latency : (id t : ℕ) (a b : CounterSet) → verb_of (Add id (Latency t a b)) ≡ 108 ∷ 97 ∷ 116 ∷ 101 ∷ 110 ∷ 99 ∷ 121 ∷ []
  pub drop : (id : ℕ) → verb_of (Drop id) ≡ 100 ∷ 114 ∷ 111 ∷ 112 ∷ []
  pub turn : record_text Turn ≡ 116 ∷ 117 ∷ 114 ∷ 110 ∷ 10 ∷ []
  -- "core or `-` for none", written and read
  pub no_core : core_text None ≡ 45 ∷ []
  pub no_core_read : core_number_of (45 ∷ []) ≡ Some 0
  -- "Hex is upper case": each digit, written and read
  pub digits : map hex_digit (0 ∷ 1 ∷ 2 ∷ 3 ∷ 4 ∷ 5 ∷ 6 ∷ 7 ∷ 8 ∷ 9 ∷ 10 ∷ 11 ∷ 12 ∷ 13 ∷ 14 ∷ 15 ∷ []) ≡ digit_bytes
  pub digits_read : map digit_of digit_bytes ≡ 0 ∷ 1 ∷ 2 ∷ 3 ∷ 4 ∷ 5 ∷ 6 ∷ 7 ∷ 8 ∷ 9 ∷ 10 ∷ 11 ∷ 12 ∷ 13 ∷ 14 ∷ 15 ∷ []
  -- the highest digit first
  pub hex : hex_text 16 0x0123456789ABCDEF ≡ digit_bytes
  pub decimal : decimal_text 9876543210 ≡ 57 ∷ 56 ∷ 55 ∷ 54 ∷ 53 ∷ 52 ∷ 51 ∷ 50 ∷ 49 ∷ 48 ∷ []
