-- What the words ask for.
use Rattle.std.specs.Prelude.{ℕ, Bool, true, false, ◌&&◌, ◌||◌, not, nat_le, Option, Some, None, option_and_then, List, [], ◌∷◌, ◌++◌, codes, count_by, if◌then◌else◌}
use Rattle.std.specs.List.{list_any, list_all, fold}
use Rattle.formail_top.specs.declared.settings.Setting.{Setting}
use Rattle.formail_top.specs.declared.settings.Setting.TheVariants.{Join, Zap, KeepFrom, KeepBody, WithBody, Prefix, Take as TakeOf, Put as PutOf, Unique as UniqueOf, Rename as RenameOf, Reply, Trust, Skip, Total, Split, Program, Argument, Cache as CacheOf}
use Rattle.formail_top.specs.declared.request.Request.{Request}
use Rattle.formail_top.specs.Words.{settings_of}

-- the setting is `-s`
abbrev pub is_split : Setting → Bool
is_split Split = true
is_split setting = false

-- it is `+N`
abbrev pub is_skip : Setting → Bool
is_skip (Skip n) = true
is_skip setting = false

-- it is `-N`
abbrev pub is_total : Setting → Bool
is_total (Total n) = true
is_total setting = false

-- it is `-r`
abbrev pub is_reply : Setting → Bool
is_reply Reply = true
is_reply setting = false

-- it is `-t`
abbrev pub is_trust : Setting → Bool
is_trust Trust = true
is_trust setting = false

-- it is `-x`, `-X` or `-R`, which make no sense for a reply
abbrev pub is_barred : Setting → Bool
is_barred (TakeOf wanted) = true
is_barred (RenameOf rename) = true
is_barred setting = false

-- `+N` and `-N` are given at most once each
abbrev pub is_once : List Setting → Bool
is_once settings = nat_le (count_by is_skip settings) 1 && nat_le (count_by is_total settings) 1

-- `+N` or `-N` is given
abbrev pub is_ranged : List Setting → Bool
is_ranged settings = list_any is_skip settings || list_any is_total settings

-- they stand so, and only with `-s`
abbrev pub is_range_sound : List Setting → Bool
is_range_sound settings = is_once settings && (list_any is_split settings || not (is_ranged settings))

-- `-t` stands only with `-r`, and `-x`, `-X` and `-R` don't stand with it
abbrev pub is_reply_sound : List Setting → Bool
is_reply_sound settings =
    if list_any is_reply settings then not (list_any is_barred settings) else not (list_any is_trust settings)

-- it is `-D`
abbrev pub is_cache : Setting → Bool
is_cache (CacheOf cache) = true
is_cache setting = false

-- it can stand beside `-D`: it is `-D` itself, `-s` with its program, `+N`, `-N`, `-f`, `-b` or `-r`
abbrev pub is_beside_cache : Setting → Bool
is_beside_cache (CacheOf cache) = true
is_beside_cache Split = true
is_beside_cache (Program name) = true
is_beside_cache (Argument word) = true
is_beside_cache (Skip n) = true
is_beside_cache (Total n) = true
is_beside_cache KeepFrom = true
is_beside_cache KeepBody = true
is_beside_cache Reply = true
is_beside_cache setting = false

-- `-D` stands at most once, and only with what can stand beside it
abbrev pub is_cache_sound : List Setting → Bool
is_cache_sound settings =
    if list_any is_cache settings then nat_le (count_by is_cache settings) 1 && list_all is_beside_cache settings
    else true

-- the settings can stand together
abbrev pub is_sound : List Setting → Bool
is_sound settings = is_range_sound settings && is_reply_sound settings && is_cache_sound settings

-- nothing is asked for
abbrev pub nothing : Request
nothing = record {
  edits = record {
    renames = [];
    puts = [];
    uniques = [];
    takes = [];
    prefix = codes ">";
    keep_from = false;
    keep_body = false;
    zap = false;
    join = false;
    with_body = false;
  };
  reply = false;
  trust = false;
  split = false;
  cache = None;
  skip = 0;
  total = None;
  program = None;
  arguments = [];
}

-- one thing more is asked for; of several prefixes the last one counts
abbrev pub asked : Request → Setting → Request
asked request Join = record request { edits = record request.edits { join = true } }
asked request Zap = record request { edits = record request.edits { zap = true } }
asked request KeepFrom = record request { edits = record request.edits { keep_from = true } }
asked request KeepBody = record request { edits = record request.edits { keep_body = true } }
asked request WithBody = record request { edits = record request.edits { with_body = true } }
asked request (Prefix text) = record request { edits = record request.edits { prefix = text } }
asked request (TakeOf wanted) =
    record request { edits = record request.edits { takes = request.edits.takes ++ wanted ∷ [] } }
asked request (PutOf put) =
    record request { edits = record request.edits { puts = request.edits.puts ++ put ∷ [] } }
asked request (UniqueOf unique) =
    record request { edits = record request.edits { uniques = request.edits.uniques ++ unique ∷ [] } }
asked request (RenameOf rename) =
    record request { edits = record request.edits { renames = request.edits.renames ++ rename ∷ [] } }
asked request Reply = record request { reply = true }
asked request Trust = record request { trust = true }
asked request (CacheOf cache) = record request { cache = Some cache }
asked request Split = record request { split = true }
asked request (Skip n) = record request { skip = n }
asked request (Total n) = record request { total = Some n }
asked request (Program name) = record request { program = Some name }
asked request (Argument word) = record request { arguments = request.arguments ++ word ∷ [] }

-- what the settings ask for together
abbrev pub request_of : List Setting → Request
request_of settings = fold asked nothing settings

-- and none where they can't stand together
abbrev pub request_in : List Setting → Option Request
request_in settings = if is_sound settings then Some (request_of settings) else None

-- what the words ask for; none where they aren't read
abbrev pub request_for : List (List ℕ) → Option Request
request_for words = option_and_then request_in (settings_of words)
