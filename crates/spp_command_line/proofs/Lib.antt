mod Matches
