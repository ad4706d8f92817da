mod Appended
