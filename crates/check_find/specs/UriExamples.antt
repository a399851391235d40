-- Names of files as paths of URIs, as RFC 3986 has them.
use Rattle.std.specs.Prelude.{◌≡◌, [], ◌∷◌, codes}
use Rattle.check_find.specs.Uris.{path_of}

-- names
pub record OfUris : Type 0 where
  pub unreserved : path_of (codes "azAZ09-._~") ≡ codes "azAZ09-._~"
  pub slashes : path_of (codes "/home/joe/.procmailrc") ≡ codes "/home/joe/.procmailrc"
  pub blank : path_of (codes "an rc") ≡ codes "an%20rc"
  pub percent : path_of (codes "100%") ≡ codes "100%25"
  pub ends : path_of (codes "rc?#") ≡ codes "rc%3F%23"
  pub scheme : path_of (codes "a:b@c") ≡ codes "a%3Ab%40c"
  pub reserved : path_of (codes "!$&'()*+,;=[]") ≡ codes "%21%24%26%27%28%29%2A%2B%2C%3B%3D%5B%5D"
  pub others : path_of (codes "\"<>\\^`{|}") ≡ codes "%22%3C%3E%5C%5E%60%7B%7C%7D"
  pub control : path_of (codes "\t\n") ≡ codes "%09%0A"
  -- a letter of two bytes in UTF-8
  pub letter : path_of (195 ∷ 169 ∷ []) ≡ codes "%C3%A9"
