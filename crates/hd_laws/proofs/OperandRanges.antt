-- Which operands each command can have.
use Rattle.hd_model.proofs.Basics.{arith, refl, true≢false, ◌≤◌}
use Rattle.hd_laws.specs.RangeLaws.{RangesAreThese}

pub ranges_are_these : RangesAreThese
ranges_are_these = record {
  objects = record {
    new = λ d fields fin. (λ is. is, λ is. is);
    set = λ o i v. (λ is. is, λ is. is);
    get = λ d o i. (λ is. is, λ is. is);
    val = λ o v. (λ is. is, λ is. is);
    read = λ a. (λ is. is, λ is. is);
    copy = λ a b. (λ is. is, λ is. is);
    clear = λ a. (λ is. is, λ is. is);
    sput = λ a b. (λ is. is, λ is. is);
    sget = λ a b. (λ is. is, λ is. is);
    gen = λ a. (λ is. is, λ is. is);
    suppress = λ a. (λ is. is, λ is. is);
    reregister = λ a. (λ is. is, λ is. is);
    final = λ a. (λ is. is, λ is. is);
    collect = λ n. (λ (is : n ≤ 2). omega arith, λ is. (let low : n ≤ 2 = omega arith in low));
    gcroot = λ a. (λ is. is, λ is. is);
  };
  weak = record {
    cadd = λ a b. (λ is. is, λ is. is);
    cfind = λ a b. (λ is. is, λ is. is);
    cremove = λ a. (λ is. is, λ is. is);
  };
  makes = record {
    short = λ d t. (λ is. (is.0, is.2), λ is. (is.0, tt, is.1));
    long = λ d t. (λ is. (is.0, is.2), λ is. (is.0, tt, is.1));
    strong = λ d t. (λ is. (is.0, is.2), λ is. (is.0, tt, is.1));
    pinned = λ d t. (λ is. (is.0, is.2), λ is. (is.0, tt, is.1));
    variable = λ strength d t. (λ is. (is.0, is.2), λ is. (is.0, tt, is.1));
    counted = λ d t. (λ is. (is.0, is.2), λ is. (is.0, tt, is.1));
    dependent = λ d t r. (λ is. is, λ is. is);
  };
  handles = record {
    hget = λ a b. (λ is. is, λ is. is);
    hset = λ a b. (λ is. is, λ is. is);
    hsec = λ a b. (λ is. is, λ is. is);
    hdep = λ a b. (λ is. is, λ is. is);
    hvar = λ strength a. (λ is. is, λ is. is);
    hfree = λ a. (λ is. is, λ is. is);
    hput = λ a b. (λ is. is, λ is. is);
    hpick = λ a b. (λ is. is, λ is. is);
    addr = λ a. (λ is. is, λ is. is);
    hup = λ a. (λ is. is, λ is. is);
    hdown = λ a. (λ is. is, λ is. is);
  };
  trims = record {
    short = refl;
    long = refl;
    strong = refl;
    pinned = refl;
    variable = λ is. true≢false is;
    counted = λ is. true≢false is;
    dependent = λ is. true≢false is;
  };
}
